-- How the calls end, and what they leave on every machine.
use Rattle.std.specs.Prelude.{◌≡◌, ◌+◌, ◌<◌, ⊤, ℕ, Option, None, Some, Result, Ok, Err}
use Rattle.disk_model.specs.declared.machine.FileNo.{FileNo}
use Rattle.log_blocks.specs.LogView.{used_of}
use Rattle.log_records.specs.RecordLog.{RecordLogView}
use Rattle.log_records.specs.declared.rewrite_err.RewriteErr.{RewriteErr}
use Rattle.log_records.specs.declared.rewrite_err.RewriteErr.TheVariants.{Exhausted, DiskFault, Damaged, LogFull, Memory}
use Rattle.running_store.specs.Calls.{ending_of_store}
use Rattle.running_store.specs.Courses.{Stop}
use Rattle.running_store.specs.Courses.Stop.{Through, Full, At_end, Worn}
use Rattle.formats.specs.Limits.{log_limit}
use Rattle.running_store.specs.Parts.{Parts}
use Rattle.running_store.specs.Taking.{Ending}
use Rattle.running_store.specs.Taking.Ending.{Done, Stopped, Short, Failed}
use Rattle.running_store.specs.declared.store_err.StoreErr.{StoreErr}
use Rattle.checkpointing.specs.declared.checkpoint_err.CheckpointErr.{CheckpointErr}
use Rattle.checkpointing.specs.declared.checkpoint_err.CheckpointErr.TheVariants as of_taking

-- no LSN is given, and no command is added; the objects and the graph are as they were
pub record KeepsCounts (before after : Parts) : Type 0 where
  pub next : after.log.next ≡ before.log.next
  pub accepted : after.log.accepted ≡ before.log.accepted
  pub same : after.volatile ≡ before.volatile

-- how the taking of a checkpoint ends: where it has no place in the log, a block of it needs so many bytes more
abbrev pub checkpoint_ending : RecordLogView → Result (Option ℕ) StoreErr → Ending
checkpoint_ending log (Ok None) = Done
checkpoint_ending log (Ok (Some need)) = Stopped (Full (used_of log.log) need log_limit)
checkpoint_ending log (Err e) = ending_of_store {T = Unit {0}} (Err e)

-- it is stopped only where the log would be longer than the limit
abbrev pub Overlong : RecordLogView → Stop → Type 0
Overlong log Through = ⊥
Overlong log (Full used need limit) = (used ≡ used_of log.log) × (limit < used + need) × (limit ≡ log_limit)
Overlong log (At_end lsn) = ⊥
Overlong log (Worn epoch) = ⊥

-- how a checkpoint ended that answers so
abbrev pub ending_of_error : CheckpointErr → Ending
ending_of_error (of_taking.LogFull used need limit) = Stopped (Full used need limit)
ending_of_error of_taking.DiskFault = Failed
ending_of_error of_taking.Memory = Short

abbrev pub ending_of_checkpoint : {T : Type 0} → Result T CheckpointErr → Ending
ending_of_checkpoint (Ok value) = Done
ending_of_checkpoint (Err e) = ending_of_error e

-- the error of a checkpoint that ends it as this one ended a call on the store
abbrev pub EndsAs : StoreErr → CheckpointErr → Type 0
EndsAs cause e = ending_of_error e ≡ ending_of_store {T = Unit {0}} (Err cause)

-- a log is too long for a trim only where the file of the new one would be longer than the limit
abbrev pub IsTooLong : RewriteErr → Type 0
IsTooLong (LogFull used need limit) = limit < need
IsTooLong (Exhausted epoch) = ⊤
IsTooLong DiskFault = ⊤
IsTooLong (Damaged file place) = ⊤
IsTooLong Memory = ⊤

-- a trim reports damage only so
abbrev pub DamagedBy : (FileNo → ℕ → Type 0) → RewriteErr → Type 0
DamagedBy fault (Exhausted epoch) = ⊤
DamagedBy fault DiskFault = ⊤
DamagedBy fault (Damaged file place) = fault file place
DamagedBy fault (LogFull used need limit) = ⊤
DamagedBy fault Memory = ⊤
