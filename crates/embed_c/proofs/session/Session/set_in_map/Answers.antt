use Rattle.std.proofs.Common.{refl}
use Rattle.embed_c.specs.PageMaps.{map_set}
use Rattle.embed_c.specs.Ranges.{Does, Stages}
use Rattle.embed_c.proofs.Untaken.{untaken}
use Rattle.embed_c.proofs.WithinCalls.{made_inside, made_outside}
use Rattle.embed_c.proofs.session.Session.set_in_map.Goals as goal

pub returns-in-None : goal.returns-in-None
returns-in-None c = let e = c.map_set.ensures in record {
  store = made_outside (Does (map_set c.args.map.now.lo c.args.map.now.hi c.args.key c.args.value)) (Stages (map_set c.args.map.now.lo c.args.map.now.hi c.args.key c.args.value)) c.args.self.now.store c.map_set.new.self c.map_set.result c.in-None.is
      (record { calls = e.calls; adds = e.adds; answer = e.answer; broken = e.broken });
  untaken = untaken e.time;
  taken = refl;
  pairs = refl;
  snapshot = refl;
}

pub returns-in-Some : goal.returns-in-Some
returns-in-Some c = record {
  store = made_inside (Does (map_set c.args.map.now.lo c.args.map.now.hi c.args.key c.args.value)) (Stages (map_set c.args.map.now.lo c.args.map.now.hi c.args.key c.args.value)) c.args.self.now.store c.map_set_within.new.self c.map_set_within.result {u = c.map_set_within.new.transaction} c.in-Some.is
      c.map_set_within.ensures;
  untaken = untaken c.map_set_within.ensures.time;
  taken = refl;
  pairs = refl;
  snapshot = refl;
}
