-- What a call that opens a store says of the files that it finds.
use Rattle.std.specs.Prelude.{◌≡◌, ◌≢◌, ◌⊎◌, ◌++◌, ℕ}
use Rattle.disk_model.specs.Disk.{Files, Disk, Rises}
use Rattle.disk_model.specs.declared.machine.FileNo.{FileNo}
use Rattle.disk_model.specs.declared.machine.FileNo.TheVariants.{Objects}
use Rattle.formats.specs.Bytes.{IsOpenAt, IsClosedAt}
use Rattle.formats.specs.FirstFault.{IsDamaged}
use Rattle.op_codec.specs.AllOps.{all_meaning}
use Rattle.shell_base.specs.Keeps.{KeepsFiles}
use Rattle.shell_base.specs.Notices as notices
use Rattle.shell_base.specs.Status.{IsOfStore, LacksMemory}
use Rattle.shell_base.specs.Store.{IsWellFormed}
use Rattle.shell_base.specs.declared.status.Status.{Status}
use Rattle.shell_base.specs.declared.status.Status.TheVariants.{NotAStore, Damaged, DiskFault, SayFault, RestartMemory}

-- no store is there: the objects gate is not open; the files read as before, and that is said
abbrev pub SaysNoStore : Disk → Disk → Type 0
SaysNoStore old new = IsClosedAt 0 (old.reads Objects) × (new.reads ≡ old.reads) × (new.said ≡ old.said ++ notices.not_a_store)

-- in all files that agree with what was read the objects gate is closed
abbrev pub ReadsNoStore : Disk → Type 0
ReadsNoStore d = (files : Files) → d.agrees files → IsClosedAt 0 (files Objects)

-- a store is there that breaks its format: the first check that fails is said, and the files read as before
abbrev pub SaysDamage : Disk → Disk → Type 0
SaysDamage old new = (file : FileNo) × (place : ℕ) × IsDamaged all_meaning old.reads file place × (new.reads ≡ old.reads) × (new.said ≡ old.said ++ notices.damaged file place)

-- The call reports a fault of the disk or of the output only where that was counted.
pub record CountsFaults (old new : Disk) (status : Status) : Type 0 where
  pub disk : status ≡ DiskFault → Rises old.disk_faults new.disk_faults
  pub output : status ≡ SayFault → Rises old.say_faults new.say_faults

-- What a call that opens the store says of the files that it finds, where the machine reports them.
pub record JudgesFiles (old new : Disk) (status : Status) : Type 0 where
  pub no_store : status ≡ NotAStore → SaysNoStore old new
  pub damaged : status ≡ Damaged → SaysDamage old new
  -- files that meet their format are never taken for no store or for damaged
  pub store : IsWellFormed old.reads → (status ≢ NotAStore) × (status ≢ Damaged)
  -- no others are opened, and they are kept
  pub opened : IsOfStore status → IsWellFormed old.reads
  pub keeps : (IsWellFormed old.reads → ⊥) → KeepsFiles old new
  -- memory runs out only where the objects gate is open
  pub memory : LacksMemory status → IsOpenAt 0 (old.reads Objects)
  -- of files that do not meet their format nothing is said where the disk fails or memory runs out
  pub silent : (IsWellFormed old.reads → ⊥) → (status ≡ DiskFault) ⊎ LacksMemory status → new.said ≡ old.said
  -- nor is anything where the restart was refused memory
  pub unopened : status ≡ RestartMemory → new.said ≡ old.said
