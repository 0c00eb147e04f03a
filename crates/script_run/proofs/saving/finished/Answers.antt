use Rattle.std.proofs.Common.{◌≤◌, ℕ, Option, Err, Ok, Result, subst, sym}
use Rattle.std.specs.Prelude.{IfSome}
use Rattle.disk_model.specs.Disk.{Rises}
use Rattle.log_records.specs.Loading.{IsTailFault}
use Rattle.op_codec.specs.AllOps.{all_meaning}
use Rattle.store_engine.specs.Engine.{params_of}
use Rattle.script_lines.specs.declared.line.Line.TheVariants.{Save}
use Rattle.script_lines.specs.declared.line.Saving.TheVariants.{Finish as bfinish}
use Rattle.script_lines.specs.declared.answer.Answer.{Answer}
use Rattle.shell_base.specs.declared.stop.Stop.{Stop}
use Rattle.script_run.specs.Saving.{IsSaving, IsSavingDone}
use Rattle.script_run.proofs.SavingCalls.{finish_inside, finish_saving}
use Rattle.script_run.proofs.SavingDone.{finish_done}
use Rattle.script_run.proofs.saving.finished.Goals as goal

pub returns-in-Ok-clause-call : goal.returns-in-Ok-clause-call
returns-in-Ok-clause-call g c =
    finish_saving g.M.Machine.disk g.T.Machine.disk c.args.machine.now c.finish.new.machine c.args.backup.now c.finish.new.target c.args.engine.now c.finish.new.engine (g.met.M.Machine.lawful c.args.machine.now) c.requires c.finish.ensures.quiet.time (IsTailFault (all_meaning c.finish.new.engine.parts.log.bounds) (g.M.Machine.disk c.finish.new.machine) c.finish.new.engine.parts.log.log) (Ok c.in-Ok.commands) c.in-Ok.ensures.refused c.in-Ok.ensures.forces c.in-Ok.ensures.cause c.in-Ok.ensures.undamaged

pub returns-in-Ok-clause-inside : goal.returns-in-Ok-clause-inside
returns-in-Ok-clause-inside g c = λ inside. finish_inside c.args.machine.now c.finish.new.machine c.args.backup.now c.finish.new.target c.args.engine.now c.finish.new.engine (Ok c.in-Ok.commands) inside c.in-Ok.ensures.refused

pub returns-in-Ok-clause-done : goal.returns-in-Ok-clause-done
returns-in-Ok-clause-done g c = λ start p commands line holds asks.
    finish_done g.M.Machine.disk g.T.Machine.disk c.args.machine.now c.finish.new.machine c.args.backup.now c.finish.new.target c.args.engine.now c.finish.new.engine (g.met.T.Machine.lawful c.args.backup.now) (g.met.T.Machine.lawful c.finish.new.target) c.finish.ensures.quiet.time p (g.T.Machine.disk start) commands line holds asks (subst (λ (o : Option ℕ). IfSome o (λ n. n ≤ (params_of c.args.engine.now).objects)) c.copied.ensures.is c.copied.ensures.within) c.finish.ensures.moments (Ok c.in-Ok.commands) c.in-Ok.ensures.refused c.in-Ok.ensures.forces c.in-Ok.ensures.copied c.in-Ok.ensures.saved c.in-Ok.ensures.again (c.in-Ok.ensures.long p holds.world holds.shows) (Rises (g.M.Machine.disk c.args.machine.now).disk_faults (g.M.Machine.disk c.finish.new.machine).disk_faults) (Rises (g.T.Machine.disk c.args.backup.now).disk_faults (g.T.Machine.disk c.finish.new.target).disk_faults) (IsTailFault (all_meaning c.finish.new.engine.parts.log.bounds) (g.M.Machine.disk c.finish.new.machine) c.finish.new.engine.parts.log.log) c.in-Ok.ensures.cause

pub returns-in-Err-clause-call : goal.returns-in-Err-clause-call
returns-in-Err-clause-call g c =
    subst (λ (r : Result Answer Stop). IsSaving (Save bfinish) (g.M.Machine.disk c.args.machine.now) (g.M.Machine.disk c.finish.new.machine) c.args.engine.now c.finish.new.engine (g.T.Machine.disk c.args.backup.now) (g.T.Machine.disk c.finish.new.target) r) (sym c.denied.ensures)
    (finish_saving g.M.Machine.disk g.T.Machine.disk c.args.machine.now c.finish.new.machine c.args.backup.now c.finish.new.target c.args.engine.now c.finish.new.engine (g.met.M.Machine.lawful c.args.machine.now) c.requires c.finish.ensures.quiet.time (IsTailFault (all_meaning c.finish.new.engine.parts.log.bounds) (g.M.Machine.disk c.finish.new.machine) c.finish.new.engine.parts.log.log) (Err c.in-Err.error) c.in-Err.ensures.refused c.in-Err.ensures.forces c.in-Err.ensures.cause c.in-Err.ensures.undamaged)

pub returns-in-Err-clause-inside : goal.returns-in-Err-clause-inside
returns-in-Err-clause-inside g c = λ inside. finish_inside c.args.machine.now c.finish.new.machine c.args.backup.now c.finish.new.target c.args.engine.now c.finish.new.engine (Err c.in-Err.error) inside c.in-Err.ensures.refused

pub returns-in-Err-clause-done : goal.returns-in-Err-clause-done
returns-in-Err-clause-done g c = λ start p commands line holds asks.
    subst (λ (r : Result Answer Stop). IsSavingDone p (g.T.Machine.disk start) (g.M.Machine.disk c.args.machine.now) (g.M.Machine.disk c.finish.new.machine) c.args.engine.now c.finish.new.engine holds.world commands line (g.T.Machine.disk c.args.backup.now) (g.T.Machine.disk c.finish.new.target) r) (sym c.denied.ensures)
    (finish_done g.M.Machine.disk g.T.Machine.disk c.args.machine.now c.finish.new.machine c.args.backup.now c.finish.new.target c.args.engine.now c.finish.new.engine (g.met.T.Machine.lawful c.args.backup.now) (g.met.T.Machine.lawful c.finish.new.target) c.finish.ensures.quiet.time p (g.T.Machine.disk start) commands line holds asks (subst (λ (o : Option ℕ). IfSome o (λ n. n ≤ (params_of c.args.engine.now).objects)) c.copied.ensures.is c.copied.ensures.within) c.finish.ensures.moments (Err c.in-Err.error) c.in-Err.ensures.refused c.in-Err.ensures.forces c.in-Err.ensures.copied c.in-Err.ensures.saved c.in-Err.ensures.again (c.in-Err.ensures.long p holds.world holds.shows) (Rises (g.M.Machine.disk c.args.machine.now).disk_faults (g.M.Machine.disk c.finish.new.machine).disk_faults) (Rises (g.T.Machine.disk c.args.backup.now).disk_faults (g.T.Machine.disk c.finish.new.target).disk_faults) (IsTailFault (all_meaning c.finish.new.engine.parts.log.bounds) (g.M.Machine.disk c.finish.new.machine) c.finish.new.engine.parts.log.log) c.in-Err.ensures.cause)
