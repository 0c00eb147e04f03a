-- What the calls of a backup leave, and why they fail.
use Rattle.std.specs.Prelude.{◌≡◌, ◌⊎◌, ◌≤◌, ◌<◌, ◌^◌, ⊤, ℕ, List, Option, None, Some, Result, Ok, Err, IsErrOf}
use Rattle.disk_model.specs.Disk.{Files, Disk, Passes}
use Rattle.disk_model.specs.declared.machine.Failed.{Failed}
use Rattle.disk_model.specs.declared.machine.FileNo.{FileNo}
use Rattle.disk_model.specs.declared.machine.FileNo.TheVariants.{Objects}
use Rattle.oper_core.specs.Meaning.{Meaning}
use Rattle.oper_core.specs.declared.bounds.Bounds.{Bounds}
use Rattle.formats.specs.Objects.{BeginsStore}
use Rattle.formats.specs.declared.params.Params.{Params}
use Rattle.running_store.specs.Laid.LongSlot.{IsLongSlot}
use Rattle.store_engine.specs.Calls.{IsForcing}
use Rattle.store_engine.specs.Engine.{EngineView, used_in}
use Rattle.store_engine.specs.Store.{Stands}
use Rattle.backup_copy.specs.Target.{AreShut}
use Rattle.backup_copy.specs.declared.backup_err.BackupErr.{BackupErr}
use Rattle.backup_copy.specs.declared.backup_err.BackupErr.TheVariants.{AlreadyStore, DiskFault, TargetFault, Damaged, LogFull, Memory}

-- no store begins in these files
abbrev pub BeginsNone : Files → Type 0
BeginsNone files = BeginsStore (files Objects) → ⊥

-- nor in an image, and nothing more is said
abbrev pub NoneIn : Disk → Files → List ℕ → Type 0
NoneIn old files said = BeginsNone files × (said ≡ old.said)

-- one of the two machines failed
abbrev pub IsFault : {A : Type 0} → Result A BackupErr → Type 0
IsFault result = IsErrOf result DiskFault ⊎ IsErrOf result TargetFault

-- time passes on a machine, and nothing is said
pub record IsQuiet (old new : Disk) : Type 0 where
  pub time : Passes old new
  pub said : old.tells_files → new.said ≡ old.said

-- the engine after a call, but for how many objects are copied, which is as it was before
abbrev pub but_copied : EngineView → EngineView → EngineView
but_copied before after = record after { copied = before.copied }

-- nothing was done with an engine and its machine
pub record IsUntouched {M : Type 0} (old new : M) (before after : EngineView) : Type 0 where
  pub machine : new ≡ old
  pub engine : after ≡ before

-- what a force answers, in the terms of a backup
abbrev pub backup_of_force : Result ℕ Failed → Result ℕ BackupErr
backup_of_force (Ok commands) = Ok commands
backup_of_force (Err e) = Err DiskFault

module _ {O : Type 0} (meaning : Bounds → Meaning O) (old new : Disk) (before after : EngineView) where
  -- a force that answers so left engine and machine, but for how many objects are copied
  abbrev pub HasForced : Result ℕ Failed → Type 0
  HasForced answer = IsForcing meaning old new before (but_copied before after) answer

  -- A start that is not refused at once looks for a store in the target, and forces the log where there is none.
  abbrev pub LooksFirst : Type 0 → Result (Unit {0}) BackupErr → Type 0
  LooksFirst untouched (Ok done) = (n : ℕ) × HasForced (Ok n)
  LooksFirst untouched (Err AlreadyStore) = untouched
  LooksFirst untouched (Err DiskFault) = (e : Failed) × HasForced (Err e)
  LooksFirst untouched (Err TargetFault) = untouched ⊎ ((n : ℕ) × HasForced (Ok n))
  LooksFirst untouched (Err e) = ⊥

  -- a finish that fails so, and is not refused at once, has forced the log, unless the disk failed
  abbrev pub ForcedSo : BackupErr → Type 0
  ForcedSo DiskFault = (e : Failed) × HasForced (Err e)
  ForcedSo e = (n : ℕ) × HasForced (Ok n)

  -- One that is done forces the log too, and answers how many commands are stable then.
  abbrev pub ForcesFirst : Result ℕ BackupErr → Type 0
  ForcesFirst (Ok commands) = HasForced (Ok commands)
  ForcesFirst (Err e) = ForcedSo e

-- Why a start that is not refused at once ends so: whether a store begins in the target, and which machine failed.
abbrev pub HasStartCause : Type 0 → Type 0 → Type 0 → Type 0 → Result (Unit {0}) BackupErr → Type 0
HasStartCause begins none rises target_rises (Ok done) = none
HasStartCause begins none rises target_rises (Err AlreadyStore) = begins
HasStartCause begins none rises target_rises (Err DiskFault) = none × rises
HasStartCause begins none rises target_rises (Err TargetFault) = target_rises
HasStartCause begins none rises target_rises (Err e) = ⊥

-- so many objects are copied after a start, if the slots are copied then
abbrev pub copied_by_start : Option ℕ → Result (Unit {0}) BackupErr → Option ℕ
copied_by_start before (Ok done) = Some 0
copied_by_start before (Err e) = before

-- after a copy that failed so, which began with so many and was to go on up to an end
abbrev pub StopsWithin : ℕ → ℕ → Option ℕ → BackupErr → Type 0
StopsWithin copied end after TargetFault = after ≡ None
StopsWithin copied end after e = (n : ℕ) × (after ≡ Some n) × (copied ≤ n) × (n ≤ end)

-- and after any
abbrev pub CopiesUpTo : {A : Type 0} → ℕ → ℕ → Option ℕ → Result A BackupErr → Type 0
CopiesUpTo copied end after (Ok done) = after ≡ Some end
CopiesUpTo copied end after (Err e) = StopsWithin copied end after e

-- after a finish that failed so, which began with so many
abbrev pub kept_copied : Option ℕ → BackupErr → Option ℕ
kept_copied before TargetFault = None
kept_copied before e = before

-- and after any
abbrev pub copied_by_finish : {A : Type 0} → Option ℕ → Result A BackupErr → Option ℕ
copied_by_finish before (Ok done) = None
copied_by_finish before (Err e) = kept_copied before e

-- Why a copy fails that is not refused at once, and leaves so many objects copied: which machine failed, or that the slot of the
-- object whose turn it is holds a value that is too long.
abbrev pub CopyFailsBy : Disk → EngineView → Option ℕ → Type 0 → Type 0 → BackupErr → Type 0
CopyFailsBy new engine copied rises target_rises DiskFault = rises
CopyFailsBy new engine copied rises target_rises TargetFault = target_rises
CopyFailsBy new engine copied rises target_rises (Damaged file place) = (object : ℕ) × (copied ≡ Some object) × IsLongSlot new engine.parts.volatile.objects.slots object file place
CopyFailsBy new engine copied rises target_rises Memory = ⊤
CopyFailsBy new engine copied rises target_rises e = ⊥

-- Why a finish fails that is not refused at once: which machine failed, where the log of the store breaks its format, or that
-- the target's log would be longer than 2^48 bytes, and the store's is of this length.
abbrev pub FinishFailsBy : Type 0 → Type 0 → (FileNo → ℕ → Type 0) → EngineView → BackupErr → Type 0
FinishFailsBy rises target_rises fault engine DiskFault = rises
FinishFailsBy rises target_rises fault engine TargetFault = target_rises
FinishFailsBy rises target_rises fault engine (Damaged file place) = fault file place
FinishFailsBy rises target_rises fault engine (LogFull used need limit) = (used ≡ used_in engine) × (limit ≡ 2 ^ 48) × (limit < need)
FinishFailsBy rises target_rises fault engine Memory = ⊤
FinishFailsBy rises target_rises fault engine e = ⊥

-- A finish that is refused for its length says how long the log of the backup would be, where that has so many bytes.
abbrev pub TellsLength : ℕ → BackupErr → Type 0
TellsLength length (LogFull used need limit) = need ≡ length
TellsLength length e = ⊤

-- and one that succeeds had room for it
abbrev pub HasLength : {A : Type 0} → ℕ → Result A BackupErr → Type 0
HasLength length (Ok done) = length ≤ 2 ^ 48
HasLength length (Err e) = TellsLength length e

module _ {O : Type 0} (meaning : Bounds → Meaning O) where
  -- at a moment of a finish the objects gate of the target is closed, or its files stand for the commands; nothing more is said
  abbrev pub IsShutOrWhole : Params → List O → Disk → Files → List ℕ → Type 0
  IsShutOrWhole p commands old files said = (AreShut files ⊎ Stands meaning p files commands) × (said ≡ old.said)
