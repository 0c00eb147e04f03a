use Rattle.std.proofs.Common.{refl}
use Rattle.formats.specs.Objects.{bounds_of}
use Rattle.map_client.specs.Answers.{get_told}
use Rattle.range_calls.specs.Store.{state_of}
use Rattle.embed_c.specs.PageMaps.{bytes_of, map_get, seen_as}
use Rattle.embed_c.specs.Ranges.{Does, Stages}
use Rattle.embed_c.proofs.Untaken.{untaken}
use Rattle.embed_c.proofs.WithinCalls.{made_inside, made_outside, reads_so, reads_within}
use Rattle.embed_c.proofs.session.Session.get_in_map.Goals as goal

pub returns-in-None : goal.returns-in-None
returns-in-None c = let e = c.map_get.ensures in record {
  store = made_outside (Does (map_get c.args.map.now.lo c.args.map.now.hi c.args.key.now)) (Stages (map_get c.args.map.now.lo c.args.map.now.hi c.args.key.now)) c.args.self.now.store c.map_get.new.self (seen_as bytes_of c.map_get.result) c.in-None.is
      (reads_so bytes_of (λ p commands. get_told (bounds_of p) c.args.map.now.lo c.args.map.now.hi (state_of p commands) c.args.key.now) c.args.self.now.store c.map_get.new.self c.map_get.result
      e.calls e.adds e.found e.refused e.broken);
  untaken = untaken e.time;
  taken = refl;
  pairs = refl;
  snapshot = refl;
}

pub returns-in-Some : goal.returns-in-Some
returns-in-Some c = record {
  store = made_inside (Does (map_get c.args.map.now.lo c.args.map.now.hi c.args.key.now)) (Stages (map_get c.args.map.now.lo c.args.map.now.hi c.args.key.now)) c.args.self.now.store c.map_get_within.new.self (seen_as bytes_of c.map_get_within.result) {u = c.map_get_within.new.transaction} c.in-Some.is
      (reads_within bytes_of (λ p commands. get_told (bounds_of p) c.args.map.now.lo c.args.map.now.hi (state_of p commands) c.args.key.now) c.args.self.now.store c.map_get_within.new.self c.in-Some.transaction c.map_get_within.new.transaction c.map_get_within.result
      c.map_get_within.ensures);
  untaken = untaken c.map_get_within.ensures.time;
  taken = refl;
  pairs = refl;
  snapshot = refl;
}
