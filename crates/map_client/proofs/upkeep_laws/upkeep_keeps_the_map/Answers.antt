use Rattle.formats.specs.Objects.{bounds_of}
use Rattle.range_calls.specs.Store.{state_of}
use Rattle.map_client.proofs.KeepLemmas.{is_found, is_sound, sweep_acts, tidy_acts}
use Rattle.map_client.proofs.upkeep_laws.upkeep_keeps_the_map.Goals as goal

pub returns : goal.returns
returns c =
    let check = c.a_check_finds_a_map.ensures in
    record {
      found = λ b range s small within is. is_found b range s within (check.complete range s small is);
      sound = λ b range s checked order told. is_sound b range s checked (λ met. check.sound range s met order) told;
      tidy = λ p commands lo hi key small admits wide is. tidy_acts p commands lo hi is key admits wide (c.a_delete_is_done_or_refused.ensures.tidy (bounds_of p) lo hi (state_of p commands) key small admits is);
      sweep = λ p commands lo hi small admits wide is. sweep_acts p commands lo hi is admits wide (c.a_sweep_leaves_nothing_over.ensures (bounds_of p) lo hi (state_of p commands) small admits is);
    }
