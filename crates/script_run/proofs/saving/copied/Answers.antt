use Rattle.std.proofs.Common.{Err, Ok, Result, subst, sym}
use Rattle.disk_model.specs.Disk.{Rises}
use Rattle.script_lines.specs.declared.line.Line.TheVariants.{Save}
use Rattle.script_lines.specs.declared.line.Saving.TheVariants.{Copy as bcopy}
use Rattle.script_lines.specs.declared.answer.Answer.{Answer}
use Rattle.shell_base.specs.declared.stop.Stop.{Stop}
use Rattle.script_run.specs.Saving.{IsSaving, IsSavingDone}
use Rattle.script_run.proofs.SavingCalls.{copy_inside, copy_saving}
use Rattle.script_run.proofs.SavingDone.{copy_done}
use Rattle.script_run.proofs.saving.copied.Goals as goal

pub returns-in-Ok-clause-call : goal.returns-in-Ok-clause-call
returns-in-Ok-clause-call g c =
    copy_saving g.M.Machine.disk g.T.Machine.disk c.args.machine.now c.copy.new.machine c.args.backup.now c.copy.new.target c.args.engine.now c.copy.new.engine (g.met.M.Machine.lawful c.args.machine.now) c.requires c.copy.ensures.runs.time c.args.count (Ok c.in-Ok.copied) c.in-Ok.ensures.refused c.in-Ok.ensures.read c.in-Ok.ensures.undamaged c.in-Ok.ensures.cause

pub returns-in-Ok-clause-inside : goal.returns-in-Ok-clause-inside
returns-in-Ok-clause-inside g c = λ inside. copy_inside c.args.machine.now c.copy.new.machine c.args.backup.now c.copy.new.target c.args.engine.now c.copy.new.engine (Ok c.in-Ok.copied) inside c.in-Ok.ensures.refused

pub returns-in-Ok-clause-done : goal.returns-in-Ok-clause-done
returns-in-Ok-clause-done g c = λ start p commands line holds asks.
    copy_done g.M.Machine.disk g.T.Machine.disk c.args.machine.now c.copy.new.machine c.args.backup.now c.copy.new.target c.args.engine.now c.copy.new.engine (g.met.T.Machine.lawful c.args.backup.now) (g.met.T.Machine.lawful c.copy.new.target) c.copy.ensures.runs.time p (g.T.Machine.disk start) commands line holds c.args.count asks c.copy.ensures.runs (Ok c.in-Ok.copied) c.in-Ok.ensures.refused c.in-Ok.ensures.read c.in-Ok.ensures.count c.in-Ok.ensures.told c.in-Ok.ensures.goes_on (Rises (g.M.Machine.disk c.args.machine.now).disk_faults (g.M.Machine.disk c.copy.new.machine).disk_faults) (Rises (g.T.Machine.disk c.args.backup.now).disk_faults (g.T.Machine.disk c.copy.new.target).disk_faults) c.in-Ok.ensures.cause

pub returns-in-Err-clause-call : goal.returns-in-Err-clause-call
returns-in-Err-clause-call g c =
    subst (λ (r : Result Answer Stop). IsSaving (Save (bcopy c.args.count)) (g.M.Machine.disk c.args.machine.now) (g.M.Machine.disk c.copy.new.machine) c.args.engine.now c.copy.new.engine (g.T.Machine.disk c.args.backup.now) (g.T.Machine.disk c.copy.new.target) r) (sym c.denied.ensures)
    (copy_saving g.M.Machine.disk g.T.Machine.disk c.args.machine.now c.copy.new.machine c.args.backup.now c.copy.new.target c.args.engine.now c.copy.new.engine (g.met.M.Machine.lawful c.args.machine.now) c.requires c.copy.ensures.runs.time c.args.count (Err c.in-Err.error) c.in-Err.ensures.refused c.in-Err.ensures.read c.in-Err.ensures.undamaged c.in-Err.ensures.cause)

pub returns-in-Err-clause-inside : goal.returns-in-Err-clause-inside
returns-in-Err-clause-inside g c = λ inside. copy_inside c.args.machine.now c.copy.new.machine c.args.backup.now c.copy.new.target c.args.engine.now c.copy.new.engine (Err c.in-Err.error) inside c.in-Err.ensures.refused

pub returns-in-Err-clause-done : goal.returns-in-Err-clause-done
returns-in-Err-clause-done g c = λ start p commands line holds asks.
    subst (λ (r : Result Answer Stop). IsSavingDone p (g.T.Machine.disk start) (g.M.Machine.disk c.args.machine.now) (g.M.Machine.disk c.copy.new.machine) c.args.engine.now c.copy.new.engine holds.world commands line (g.T.Machine.disk c.args.backup.now) (g.T.Machine.disk c.copy.new.target) r) (sym c.denied.ensures)
    (copy_done g.M.Machine.disk g.T.Machine.disk c.args.machine.now c.copy.new.machine c.args.backup.now c.copy.new.target c.args.engine.now c.copy.new.engine (g.met.T.Machine.lawful c.args.backup.now) (g.met.T.Machine.lawful c.copy.new.target) c.copy.ensures.runs.time p (g.T.Machine.disk start) commands line holds c.args.count asks c.copy.ensures.runs (Err c.in-Err.error) c.in-Err.ensures.refused c.in-Err.ensures.read c.in-Err.ensures.count c.in-Err.ensures.told c.in-Err.ensures.goes_on (Rises (g.M.Machine.disk c.args.machine.now).disk_faults (g.M.Machine.disk c.copy.new.machine).disk_faults) (Rises (g.T.Machine.disk c.args.backup.now).disk_faults (g.T.Machine.disk c.copy.new.target).disk_faults) c.in-Err.ensures.cause)
