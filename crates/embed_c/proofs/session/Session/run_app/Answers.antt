use Rattle.std.proofs.Common.{refl}
use Rattle.app_steps.specs.Steps.{step_of}
use Rattle.embed_c.specs.Calls.{DoesRun, StagesRun}
use Rattle.embed_c.proofs.Untaken.{untaken}
use Rattle.embed_c.proofs.WithinCalls.{made_inside, made_outside}
use Rattle.embed_c.proofs.session.Session.run_app.Goals as goal

pub returns-in-None : goal.returns-in-None
returns-in-None c = let e = c.app_run.ensures in record {
  store = made_outside (DoesRun (step_of c.args.app.now.app) c.args.most) (StagesRun (step_of c.args.app.now.app) c.args.most) c.args.self.now.store c.app_run.new.self c.app_run.result c.in-None.is
      (record { calls = e.calls; adds = e.adds; answer = e.answer; broken = e.broken });
  untaken = untaken e.time;
  taken = refl;
  pairs = refl;
  snapshot = refl;
}

pub returns-in-Some : goal.returns-in-Some
returns-in-Some c = record {
  store = made_inside (DoesRun (step_of c.args.app.now.app) c.args.most) (StagesRun (step_of c.args.app.now.app) c.args.most) c.args.self.now.store c.app_run_within.new.self c.app_run_within.result {u = c.app_run_within.new.transaction} c.in-Some.is
      c.app_run_within.ensures;
  untaken = untaken c.app_run_within.ensures.time;
  taken = refl;
  pairs = refl;
  snapshot = refl;
}
