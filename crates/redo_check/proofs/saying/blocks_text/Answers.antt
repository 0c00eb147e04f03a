use Rattle.std.proofs.Common.{subst, ℕ}
use Rattle.std.specs.Prelude.{⊤}
use Rattle.formats.specs.FirstFault.{IsFirstLogFault}
use Rattle.formats.specs.Reading.{FailsBy}
use Rattle.redo_check.specs.Files.IsLogLine.{fails}
use Rattle.disk_model.specs.Disk.{Rises}
use Rattle.disk_model.specs.declared.machine.FileNo.{FileNo}
use Rattle.redo_check.proofs.JudgeLemmas.{line_ends}
use Rattle.redo_check.proofs.saying.blocks_text.Goals as goal

pub returns-in_ok-line_of-in-Ok-clause-text : goal.returns-in_ok-line_of-in-Ok-clause-text
returns-in_ok-line_of-in-Ok-clause-text g c files agrees = line_ends files c.in-Ok.file c.in-Ok.end _ (c.in-Ok.ensures.ends files agrees) c.in_ok-line_of-in-Ok.ensures

pub returns-in_ok-line_of-in-Err-Damaged-clause-text : goal.returns-in_ok-line_of-in-Err-Damaged-clause-text
returns-in_ok-line_of-in-Err-Damaged-clause-text g c files agrees = fails c.in-Err-Damaged.file c.in-Err-Damaged.place (subst (FailsBy ⊤ (IsFirstLogFault files)) c.in-Err-Damaged.field-0-is (c.in-Err-Damaged.ensures.cause files agrees)) c.in_ok-line_of-in-Err-Damaged.ensures

pub returns-in-Err-DiskFault-clause-cause : goal.returns-in-Err-DiskFault-clause-cause
returns-in-Err-DiskFault-clause-cause g c = subst (FailsBy (Rises (g.M.Machine.disk c.args.machine.now).disk_faults (g.M.Machine.disk c.log_end.new.machine).disk_faults) (λ (file : FileNo) (place : ℕ). ⊤)) c.in-Err-DiskFault.field-0-is c.in-Err-DiskFault.ensures.fault
