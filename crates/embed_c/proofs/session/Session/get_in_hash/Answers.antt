use Rattle.std.proofs.Common.{refl}
use Rattle.embed_c.specs.Ranges.{Does, Stages, hash_get}
use Rattle.embed_c.proofs.Untaken.{untaken}
use Rattle.embed_c.proofs.WithinCalls.{made_inside, made_outside}
use Rattle.embed_c.proofs.session.Session.get_in_hash.Goals as goal

pub returns-in-None : goal.returns-in-None
returns-in-None c = let e = c.hash_get.ensures in record {
  store = made_outside (Does (hash_get c.args.file.now.lo c.args.file.now.hi c.args.key.now)) (Stages (hash_get c.args.file.now.lo c.args.file.now.hi c.args.key.now)) c.args.self.now.store c.hash_get.new.self c.hash_get.result c.in-None.is
      (record { calls = e.calls; adds = e.adds; answer = e.answer; broken = e.broken });
  untaken = untaken e.time;
  taken = refl;
  pairs = refl;
  snapshot = refl;
}

pub returns-in-Some : goal.returns-in-Some
returns-in-Some c = record {
  store = made_inside (Does (hash_get c.args.file.now.lo c.args.file.now.hi c.args.key.now)) (Stages (hash_get c.args.file.now.lo c.args.file.now.hi c.args.key.now)) c.args.self.now.store c.hash_get_within.new.self c.hash_get_within.result {u = c.hash_get_within.new.transaction} c.in-Some.is
      c.hash_get_within.ensures;
  untaken = untaken c.hash_get_within.ensures.time;
  taken = refl;
  pairs = refl;
  snapshot = refl;
}
