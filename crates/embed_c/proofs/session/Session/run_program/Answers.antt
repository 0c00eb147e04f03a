use Rattle.std.proofs.Common.{refl}
use Rattle.app_steps.specs.Steps.{program_step}
use Rattle.embed_c.specs.Calls.{DoesRun, StagesRun}
use Rattle.embed_c.proofs.Untaken.{untaken}
use Rattle.embed_c.proofs.WithinCalls.{less_told, made_inside, made_outside}
use Rattle.embed_c.proofs.session.Session.run_program.Goals as goal

pub returns-in-None : goal.returns-in-None
returns-in-None c = let e = c.program_run.ensures in record {
  store = made_outside (DoesRun (program_step c.args.app.now.app c.args.app.now.program) c.args.most) (StagesRun (program_step c.args.app.now.app c.args.app.now.program) c.args.most) c.args.self.now.store c.program_run.new.self c.program_run.result c.in-None.is
      (record { calls = e.calls; adds = e.adds; answer = e.answer; broken = e.broken });
  untaken = untaken e.time;
  taken = refl;
  pairs = refl;
  snapshot = refl;
}

pub returns-in-Some : goal.returns-in-Some
returns-in-Some c = record {
  store = made_inside (DoesRun (program_step c.args.app.now.app c.args.app.now.program) c.args.most) (StagesRun (program_step c.args.app.now.app c.args.app.now.program) c.args.most) c.args.self.now.store c.program_run_within.new.self c.program_run_within.result {u = c.program_run_within.new.transaction} c.in-Some.is
      (less_told c.program_run_within.ensures);
  untaken = untaken c.program_run_within.ensures.time;
  taken = refl;
  pairs = refl;
  snapshot = refl;
}
