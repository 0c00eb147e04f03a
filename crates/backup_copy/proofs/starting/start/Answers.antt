use Rattle.std.proofs.Common.{◌≡◌, ◌∙◌, sym, ap, subst}
use Rattle.std.specs.Prelude.{Result, Err}
use Rattle.disk_model.specs.Disk.{Rises}
use Rattle.disk_model.specs.declared.machine.FileNo.TheVariants.{Objects}
use Rattle.formats.specs.Objects.{BeginsStore}
use Rattle.backup_copy.specs.Calls.{BeginsNone, HasStartCause}
use Rattle.backup_copy.specs.Refusals.{judge_start}
use Rattle.backup_copy.specs.declared.backup_err.BackupErr.{BackupErr}
use Rattle.backup_copy.specs.declared.backup_err.BackupErr.TheVariants.{DiskFault}
use Rattle.backup_copy.proofs.Begun.{begun, force_counted, force_shows, if_judged, looked_none}
use Rattle.backup_copy.proofs.Ends.{error_from}
use Rattle.backup_copy.proofs.starting.start.Goals as goal

pub returns-in_err-force-clause-cause : goal.returns-in_err-force-clause-cause
returns-in_err-force-clause-cause g c =
    let t = g.T.Machine.disk c.args.target.now in
    let old = g.M.Machine.disk c.args.machine.now in
    let new = g.M.Machine.disk c.force.new.machine in
    let none : t.tells_files → BeginsNone t.reads = looked_none t (g.T.Machine.disk c.begins.new.machine) c.in-Ok-false.field-0 c.in-Ok-false.field-0-test c.begins.ensures.kept (λ files agrees. c.in-Ok-false.ensures.begins files agrees) in
    let fails = force_counted {P = Rises old.disk_faults new.disk_faults} c.force.ensures.0 c.in_err-force.field-0.0 (sym c.force.ensures.1 ∙ c.in_err-force.was) (λ failed. c.force.ensures.2.call.fault failed) in
    let is : c.from_residual-in_err-force.result ≡ Err DiskFault = error_from c.from_residual-in_err-force.result _ c.from_residual-in_err-force.ensures.1 ∙ ap (λ (e : BackupErr). Err e) (sym fails.0) in
    if_judged _ c.may_start.result (judge_start c.args.engine.now) tt c.may_start.ensures c.in_ok-may_start.was
    (subst (λ (r : Result (Unit {0}) BackupErr). HasStartCause (t.tells_files → BeginsStore (t.reads Objects)) (t.tells_files → BeginsNone t.reads) (Rises old.disk_faults new.disk_faults) (Rises t.disk_faults (g.T.Machine.disk c.begins.new.machine).disk_faults) r) (sym is) (none, fails.1))

pub returns-clause-begun : goal.returns-clause-begun
returns-clause-begun g c = λ p w shows.
    let old = g.M.Machine.disk c.args.machine.now in
    let new = g.M.Machine.disk c.force.new.machine in
    let forced = c.force.ensures.2 in
    let now = force_shows g.O.Oper.meaning p w old new c.args.engine.now c.force.new.engine c.force.ensures.0 c.in_ok-force.field-0 (sym c.force.ensures.1 ∙ c.in_ok-force.was) forced shows in
    begun g.O.Oper.meaning p w new c.force.new.engine c.set_copied.new.self (g.T.Machine.disk c.lay_out.new.target) c.params.result (λ b w cells. c.copying_goes_on.ensures.none b w cells) now c.set_copied.ensures
    (c.params.ensures.value ∙ now.shows.store.params) (λ told cells. c.in-Ok.ensures.laid_out (c.in-Ok.ensures.quiet.time.files_told.1 told) cells)

pub returns-clause-cause : goal.returns-clause-cause
returns-clause-cause g c =
    let t = g.T.Machine.disk c.args.target.now in
    if_judged _ c.may_start.result (judge_start c.args.engine.now) tt c.may_start.ensures c.in_ok-may_start.was (looked_none t (g.T.Machine.disk c.begins.new.machine) c.in-Ok-false.field-0 c.in-Ok-false.field-0-test c.begins.ensures.kept (λ files agrees. c.in-Ok-false.ensures.begins files agrees))
