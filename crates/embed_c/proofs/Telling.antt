-- What is said of the files of a target that tells them, without that condition.
use Rattle.std.proofs.Common.{◌≡◌, ℕ, Result, Ok, Err, IfOk, length}
use Rattle.disk_model.specs.declared.machine.FileNo.TheVariants.{Objects}
use Rattle.formats.specs.Objects.{BeginsStore}
use Rattle.formats.specs.declared.params.Params.{Params}
use Rattle.op_codec.specs.AllOps.{AllOps}
use Rattle.explain_core.specs.History.{commands_of}
use Rattle.explain_core.specs.World.{World}
use Rattle.store_engine.specs.Engine.{InEachImage}
use Rattle.backup_copy.specs.Calls.{BeginsNone, HasStartCause}
use Rattle.backup_copy.specs.declared.backup_err.BackupErr.{BackupErr}
use Rattle.backup_copy.specs.declared.backup_err.BackupErr.TheVariants.{InGroup, InBackup, NoBackup, AlreadyStore, NotCopied, DiskFault, TargetFault, Damaged, LogFull, Memory}
use Rattle.write_queue.specs.Memory.{disk_of}
use Rattle.write_queue.specs.declared.queue_mem.QueueMem.{QueueMem}
use Rattle.embed.specs.Embedded.{AreSaved}

module _ (target : QueueMem) (here there : Type 0) where
  abbrev IfTold : Result (Unit {0}) BackupErr → Type 0
  IfTold made = HasStartCause ((disk_of target).tells_files → BeginsStore ((disk_of target).reads Objects)) ((disk_of target).tells_files → BeginsNone (disk_of target).reads) here there made

  abbrev IsSo : Result (Unit {0}) BackupErr → Type 0
  IsSo made = HasStartCause (BeginsStore ((disk_of target).reads Objects)) (BeginsNone (disk_of target).reads) here there made

  caused : (made : Result (Unit {0}) BackupErr) → IfTold made → IsSo made
  caused (Ok done) none = none tt
  caused (Err AlreadyStore) begins = begins tt
  caused (Err DiskFault) h = (h.0 tt, h.1)
  caused (Err TargetFault) rises = rises
  caused (Err (InGroup size)) h = h
  caused (Err (InBackup copied)) h = h
  caused (Err NoBackup) h = h
  caused (Err (NotCopied copied)) h = h
  caused (Err (Damaged file place)) h = h
  caused (Err (LogFull used need limit)) h = h
  caused (Err Memory) h = h

  pub start_cause : (judged made : Result (Unit {0}) BackupErr) → IfOk judged (λ done. IfTold made) → IfOk judged (λ done. IsSo made)
  start_cause (Ok done) made h = caused made h
  start_cause (Err why) made h = h

module _ (target target' : QueueMem) (p : Params) (w : World AllOps) where
  abbrev IsSaved : Type 0
  IsSaved = InEachImage (disk_of target') (AreSaved p w.history)

  pub saved : (made : Result ℕ BackupErr) → IfOk made (λ n. (n ≡ length (commands_of w.history)) × ((disk_of target).tells_files → IsSaved)) → IfOk made (λ n. (n ≡ length (commands_of w.history)) × IsSaved)
  saved (Ok n) h = (h.0, h.1 tt)
  saved (Err why) h = h
