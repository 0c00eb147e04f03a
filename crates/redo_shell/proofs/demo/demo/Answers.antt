use Rattle.std.proofs.Common.{⊎_elim, refl}
use Rattle.disk_model.specs.Moments.{stays_here}
use Rattle.shell_base.specs.KeepLaws.{keeps_none}
use Rattle.redo_shell.proofs.DemoPlayed.{demo_said}
use Rattle.redo_shell.proofs.demo.demo.Goals as goal

pub returns-in-Ok-clause-demo : goal.returns-in-Ok-clause-demo
returns-in-Ok-clause-demo g c =
    let old = g.M.Machine.disk c.args.machine.now in
    let new = g.M.Machine.disk c.end_with.new.machine in
    demo_said c.args.seed c.args.steps old new c.end_with.result c.as_slice.result.now c.in-Ok.line.items c.as_slice.ensures.value c.in-Ok.ensures c.end_with.ensures.runs c.end_with.ensures.all c.end_with.ensures.status

pub returns-in-Err-clause-demo : goal.returns-in-Err-clause-demo
returns-in-Err-clause-demo g c = record {
  ends = tt;
  keeps = keeps_none (g.M.Machine.disk c.args.machine.now) (g.met.M.Machine.lawful c.args.machine.now);
  short = λ is. stays_here (g.M.Machine.disk c.args.machine.now) (g.met.M.Machine.lawful c.args.machine.now);
  totals = λ memory. absurd (memory refl);
}

pub returns-in-Ok-clause-faults : goal.returns-in-Ok-clause-faults
returns-in-Ok-clause-faults g c = record {
  disk = λ is. ⊎_elim (λ e. cc (is, e)) (λ e. cc (is, e)) c.end_with.ensures.status;
  output = λ is. ⊎_elim (λ e. cc e) (λ e. e) (c.end_with.ensures.cause is);
}
