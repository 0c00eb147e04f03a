use Rattle.std.proofs.Common.{subst, ℕ}
use Rattle.std.specs.Prelude.{⊤}
use Rattle.formats.specs.Reading.{FailsBy}
use Rattle.log_records.specs.Loading.{IsLoadFault}
use Rattle.op_codec.specs.AllOps.{all_meaning}
use Rattle.redo_check.specs.Checking.IsRecordsOf.{broken, whole}
use Rattle.disk_model.specs.Disk.{Rises}
use Rattle.disk_model.specs.declared.machine.FileNo.{FileNo}
use Rattle.redo_check.proofs.saying.records_line.Goals as goal

pub returns-in_ok-found_line-in-Ok-clause-text : goal.returns-in_ok-found_line-in-Ok-clause-text
returns-in_ok-found_line-in-Ok-clause-text g c told small = whole c.in-Ok.it (c.in-Ok.ensures.read told small) c.in_ok-found_line-in-Ok.ensures

pub returns-in_ok-line_of-in-Err-Damaged-clause-text : goal.returns-in_ok-line_of-in-Err-Damaged-clause-text
returns-in_ok-line_of-in-Err-Damaged-clause-text g c told small =
    broken c.in-Err-Damaged.file c.in-Err-Damaged.place (subst (FailsBy ⊤ (IsLoadFault (all_meaning c.args.b) (g.M.Machine.disk c.args.machine.now).reads)) c.in-Err-Damaged.field-0-is (c.in-Err-Damaged.ensures.cause told)) c.in_ok-line_of-in-Err-Damaged.ensures

pub returns-in-Err-DiskFault-clause-cause : goal.returns-in-Err-DiskFault-clause-cause
returns-in-Err-DiskFault-clause-cause g c = subst (FailsBy (Rises (g.M.Machine.disk c.args.machine.now).disk_faults (g.M.Machine.disk c.store_records.new.machine).disk_faults) (λ (file : FileNo) (place : ℕ). ⊤)) c.in-Err-DiskFault.field-0-is c.in-Err-DiskFault.ensures.fault
