use Rattle.std.proofs.Common.{refl}
use Rattle.embed_c.specs.PageMaps.{map_delete}
use Rattle.embed_c.specs.Ranges.{Does, Stages}
use Rattle.embed_c.proofs.Untaken.{untaken}
use Rattle.embed_c.proofs.WithinCalls.{made_inside, made_outside}
use Rattle.embed_c.proofs.session.Session.delete_in_map.Goals as goal

pub returns-in-None : goal.returns-in-None
returns-in-None c = let e = c.map_delete.ensures in record {
  store = made_outside (Does (map_delete c.args.map.now.lo c.args.map.now.hi c.args.key.now)) (Stages (map_delete c.args.map.now.lo c.args.map.now.hi c.args.key.now)) c.args.self.now.store c.map_delete.new.self c.map_delete.result c.in-None.is
      (record { calls = e.calls; adds = e.adds; answer = e.answer; broken = e.broken });
  untaken = untaken e.time;
  taken = refl;
  pairs = refl;
  snapshot = refl;
}

pub returns-in-Some : goal.returns-in-Some
returns-in-Some c = record {
  store = made_inside (Does (map_delete c.args.map.now.lo c.args.map.now.hi c.args.key.now)) (Stages (map_delete c.args.map.now.lo c.args.map.now.hi c.args.key.now)) c.args.self.now.store c.map_delete_within.new.self c.map_delete_within.result {u = c.map_delete_within.new.transaction} c.in-Some.is
      c.map_delete_within.ensures;
  untaken = untaken c.map_delete_within.ensures.time;
  taken = refl;
  pairs = refl;
  snapshot = refl;
}
