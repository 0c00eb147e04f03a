use Rattle.std.proofs.Common.{option_map, refl}
use Rattle.formats.specs.Objects.{bounds_of}
use Rattle.map_client.specs.Ranging.{prev_told}
use Rattle.range_calls.specs.Store.{state_of}
use Rattle.embed_c.specs.PageMaps.{map_prev, pairs_of, seen_as}
use Rattle.embed_c.specs.Ranges.{Does, Stages}
use Rattle.embed_c.proofs.Untaken.{untaken}
use Rattle.embed_c.proofs.WithinCalls.{made_inside, made_outside, reads_so, reads_within}
use Rattle.embed_c.proofs.session.Session.prev_in_map.Goals as goal

pub returns-in-None : goal.returns-in-None
returns-in-None c = let e = c.map_prev.ensures in record {
  store = made_outside (Does (map_prev c.args.map.now.lo c.args.map.now.hi (option_map (λ key. key.now) c.args.key))) (Stages (map_prev c.args.map.now.lo c.args.map.now.hi (option_map (λ key. key.now) c.args.key))) c.args.self.now.store c.map_prev.new.self (seen_as pairs_of c.map_prev.result) c.in-None.is
      (reads_so pairs_of (λ p commands. prev_told (bounds_of p) c.args.map.now.lo c.args.map.now.hi (state_of p commands) (option_map (λ key. key.now) c.args.key)) c.args.self.now.store c.map_prev.new.self c.map_prev.result
      e.calls e.adds e.found e.refused e.broken);
  untaken = untaken e.time;
  taken = refl;
  pairs = refl;
  snapshot = refl;
}

pub returns-in-Some : goal.returns-in-Some
returns-in-Some c = record {
  store = made_inside (Does (map_prev c.args.map.now.lo c.args.map.now.hi (option_map (λ key. key.now) c.args.key))) (Stages (map_prev c.args.map.now.lo c.args.map.now.hi (option_map (λ key. key.now) c.args.key))) c.args.self.now.store c.map_prev_within.new.self (seen_as pairs_of c.map_prev_within.result) {u = c.map_prev_within.new.transaction} c.in-Some.is
      (reads_within pairs_of (λ p commands. prev_told (bounds_of p) c.args.map.now.lo c.args.map.now.hi (state_of p commands) (option_map (λ key. key.now) c.args.key)) c.args.self.now.store c.map_prev_within.new.self c.in-Some.transaction c.map_prev_within.new.transaction c.map_prev_within.result
      c.map_prev_within.ensures);
  untaken = untaken c.map_prev_within.ensures.time;
  taken = refl;
  pairs = refl;
  snapshot = refl;
}
