use Rattle.formats.specs.Objects.{bounds_of}
use Rattle.range_calls.specs.Store.{state_of}
use Rattle.map_client.proofs.LawLemmas.{delete_acts, first_accepted, get_is, set_acts, takes_out}
use Rattle.map_client.proofs.laws.calls_act_as_on_an_ordered_map.Goals as goal

pub returns : goal.returns
returns c =
    let changes = c.changes_are_those_of_the_map.ensures in
    record {
      get = λ b lo hi s key small within is. get_is b lo hi s key within (c.a_get_finds_what_the_map_has.ensures lo hi s key small is);
      accepted = λ b lo hi s key op order small admits fit command. first_accepted b lo hi s key op order small admits fit command;
      taken = λ b lo hi s key small admits wide fit is. takes_out b lo hi s is key small admits wide fit (changes.delete b lo hi s key small is);
      delete = λ p commands lo hi key small admits wide is.
          delete_acts p commands lo hi is key admits wide (c.a_delete_is_done_or_refused.ensures.delete (bounds_of p) lo hi (state_of p commands) key small admits is);
      set = λ p commands lo hi key value small admits wide is.
          set_acts p commands lo hi is key value admits wide (c.a_set_is_done_or_refused.ensures (bounds_of p) lo hi (state_of p commands) key value small admits is);
    }
