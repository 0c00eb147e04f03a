use Rattle.std.proofs.Common.{Err, Ok, Result, subst, sym}
use Rattle.disk_model.specs.Disk.{Rises}
use Rattle.disk_model.specs.declared.machine.FileNo.TheVariants.{Objects}
use Rattle.formats.specs.Objects.{BeginsStore}
use Rattle.backup_copy.specs.Calls.{BeginsNone}
use Rattle.script_lines.specs.declared.line.Line.TheVariants.{Save}
use Rattle.script_lines.specs.declared.line.Saving.TheVariants.{Start as bstart}
use Rattle.script_lines.specs.declared.answer.Answer.{Answer}
use Rattle.shell_base.specs.declared.stop.Stop.{Stop}
use Rattle.script_run.specs.Saving.{IsSaving, IsSavingDone}
use Rattle.script_run.proofs.SavingCalls.{start_inside, start_saving}
use Rattle.script_run.proofs.SavingDone.{start_done}
use Rattle.script_run.proofs.saving.started.Goals as goal

pub returns-in-Ok-clause-call : goal.returns-in-Ok-clause-call
returns-in-Ok-clause-call g c =
    start_saving g.M.Machine.disk g.T.Machine.disk c.args.machine.now c.start.new.machine c.args.backup.now c.start.new.target c.args.engine.now c.start.new.engine (g.met.M.Machine.lawful c.args.machine.now) c.requires c.start.ensures.quiet.time ((g.T.Machine.disk c.args.backup.now).tells_files → BeginsStore ((g.T.Machine.disk c.args.backup.now).reads Objects)) ((g.T.Machine.disk c.args.backup.now).tells_files → BeginsNone (g.T.Machine.disk c.args.backup.now).reads) (Ok tt) c.in-Ok.ensures.refused c.in-Ok.ensures.forces c.in-Ok.ensures.cause

pub returns-in-Ok-clause-inside : goal.returns-in-Ok-clause-inside
returns-in-Ok-clause-inside g c = λ inside. start_inside c.args.machine.now c.start.new.machine c.args.backup.now c.start.new.target c.args.engine.now c.start.new.engine (Ok tt) inside c.in-Ok.ensures.refused

pub returns-in-Ok-clause-done : goal.returns-in-Ok-clause-done
returns-in-Ok-clause-done g c = λ start p commands line holds asks.
    start_done g.M.Machine.disk g.T.Machine.disk c.args.machine.now c.start.new.machine c.args.backup.now c.start.new.target c.args.engine.now c.start.new.engine (g.met.T.Machine.lawful c.args.backup.now) (g.met.T.Machine.lawful c.start.new.target) c.start.ensures.quiet.time p (g.T.Machine.disk start) commands line holds asks c.start.ensures.kept c.start.ensures.moments (Ok tt) c.in-Ok.ensures.refused c.in-Ok.ensures.forces c.in-Ok.ensures.copied c.in-Ok.ensures.begun (Rises (g.M.Machine.disk c.args.machine.now).disk_faults (g.M.Machine.disk c.start.new.machine).disk_faults) (Rises (g.T.Machine.disk c.args.backup.now).disk_faults (g.T.Machine.disk c.start.new.target).disk_faults) c.in-Ok.ensures.cause

pub returns-in-Err-clause-call : goal.returns-in-Err-clause-call
returns-in-Err-clause-call g c =
    subst (λ (r : Result Answer Stop). IsSaving (Save bstart) (g.M.Machine.disk c.args.machine.now) (g.M.Machine.disk c.start.new.machine) c.args.engine.now c.start.new.engine (g.T.Machine.disk c.args.backup.now) (g.T.Machine.disk c.start.new.target) r) (sym c.denied.ensures)
    (start_saving g.M.Machine.disk g.T.Machine.disk c.args.machine.now c.start.new.machine c.args.backup.now c.start.new.target c.args.engine.now c.start.new.engine (g.met.M.Machine.lawful c.args.machine.now) c.requires c.start.ensures.quiet.time ((g.T.Machine.disk c.args.backup.now).tells_files → BeginsStore ((g.T.Machine.disk c.args.backup.now).reads Objects)) ((g.T.Machine.disk c.args.backup.now).tells_files → BeginsNone (g.T.Machine.disk c.args.backup.now).reads) (Err c.in-Err.error) c.in-Err.ensures.refused c.in-Err.ensures.forces c.in-Err.ensures.cause)

pub returns-in-Err-clause-inside : goal.returns-in-Err-clause-inside
returns-in-Err-clause-inside g c = λ inside. start_inside c.args.machine.now c.start.new.machine c.args.backup.now c.start.new.target c.args.engine.now c.start.new.engine (Err c.in-Err.error) inside c.in-Err.ensures.refused

pub returns-in-Err-clause-done : goal.returns-in-Err-clause-done
returns-in-Err-clause-done g c = λ start p commands line holds asks.
    subst (λ (r : Result Answer Stop). IsSavingDone p (g.T.Machine.disk start) (g.M.Machine.disk c.args.machine.now) (g.M.Machine.disk c.start.new.machine) c.args.engine.now c.start.new.engine holds.world commands line (g.T.Machine.disk c.args.backup.now) (g.T.Machine.disk c.start.new.target) r) (sym c.denied.ensures)
    (start_done g.M.Machine.disk g.T.Machine.disk c.args.machine.now c.start.new.machine c.args.backup.now c.start.new.target c.args.engine.now c.start.new.engine (g.met.T.Machine.lawful c.args.backup.now) (g.met.T.Machine.lawful c.start.new.target) c.start.ensures.quiet.time p (g.T.Machine.disk start) commands line holds asks c.start.ensures.kept c.start.ensures.moments (Err c.in-Err.error) c.in-Err.ensures.refused c.in-Err.ensures.forces c.in-Err.ensures.copied c.in-Err.ensures.begun (Rises (g.M.Machine.disk c.args.machine.now).disk_faults (g.M.Machine.disk c.start.new.machine).disk_faults) (Rises (g.T.Machine.disk c.args.backup.now).disk_faults (g.T.Machine.disk c.start.new.target).disk_faults) c.in-Err.ensures.cause)
