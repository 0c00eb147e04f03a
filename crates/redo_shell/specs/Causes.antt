-- Why a call of the program ends with its status, and what it leaves and says then.
use Rattle.std.specs.Prelude.{◌≡◌, ◌⊎◌, ◌++◌, ◌^◌, ℕ, Bool, List}
use Rattle.disk_model.specs.Disk.{Disk, Rises, Stays}
use Rattle.formats.specs.declared.params.Params.{Params}
use Rattle.script_lines.specs.Reading.{ReadsOn}
use Rattle.command_words.specs.Words.{Asks}
use Rattle.command_words.specs.declared.asked.Asked.{Asked}
use Rattle.command_words.specs.declared.asked.Asked.TheVariants.{Upgrade, Ship, Follow}
use Rattle.shell_base.specs.Keeps.{KeepsFiles}
use Rattle.shell_base.specs.Notices as notices
use Rattle.shell_base.specs.declared.status.Status.{Status}
use Rattle.shell_base.specs.declared.status.Status.TheVariants.{Usage, NotAStore, AlreadyStore, Damaged, ReadFault, SayFault, BackupFault, Memory, TooLong, Gone, BadStream, StandbyFull}
use Rattle.shell_base.specs.Judging.{SaysNoStore, SaysDamage, CountsFaults}
use Rattle.store_words.specs.Cut.{SaysCut}
use Rattle.store_words.specs.Making.{SaysStore}

-- the words ask for nothing that the program does
abbrev pub AsksNothing : List (List ℕ) → Type 0
AsksNothing words = (asked : Asked) → Asks words asked → ⊥

-- and the words ask for that
abbrev pub IsCutUpgrade : List (List ℕ) → Disk → Disk → Type 0
IsCutUpgrade words old new = (q : Params) × Asks words (Upgrade q) × SaysCut old new

-- There was no memory to read the words, and nothing was done.
pub record IsUnread (old new : Disk) (status : Status) : Type 0 where
  pub ends : status ≡ Memory
  pub stays : Stays old new

-- the words were read, and then this holds, or there was no memory to read them
abbrev pub OrUnread : Type 0 → Disk → Disk → Status → Type 0
OrUnread holds old new status = holds ⊎ IsUnread old new status

-- The words ask nothing: the files are kept, and the usage line is said unless the output fails.
pub record IsUsage (old new : Disk) (status : Status) : Type 0 where
  pub keeps : KeepsFiles old new
  pub ends : (status ≡ Usage) ⊎ (status ≡ SayFault)

-- Each status of trouble comes only with its cause, whatever the words ask. The input had `left` at the call's start and has
-- `rest` at its end, where the source reports that (`told`), and so many of its reads have failed before and now. The machine of
-- the backup was in the one state before, and is in the other now.
pub record ComesByCause (words : List (List ℕ)) (told : Type 0) (left rest : List ℕ) (reads_before reads_now : ℕ) (backup backed old new : Disk) (status : Status) : Type 0 where
  -- where the words ask nothing, the usage line is said, unless there is no memory to read them
  pub nothing : AsksNothing words → OrUnread (IsUsage old new status) old new status
  pub usage : status ≡ Usage → AsksNothing words
  pub usage_said : old.tells_files → status ≡ Usage → new.said ≡ old.said ++ notices.usage
  pub no_store : old.tells_files → status ≡ NotAStore → SaysNoStore old new
  pub damaged : old.tells_files → status ≡ Damaged → SaysDamage old new ⊎ IsCutUpgrade words old new
  pub already : old.tells_files → status ≡ AlreadyStore → SaysStore old new
  pub faults : CountsFaults old new status
  pub read_fault : status ≡ ReadFault → Rises reads_before reads_now
  pub backup_fault : status ≡ BackupFault → Rises backup.disk_faults backed.disk_faults
  -- so many bytes were taken, and the end was not yet read
  pub too_long : told → status ≡ TooLong → ReadsOn left rest 0 (2 ^ 40)
  -- the words ask for a shipment, or for the following of a stream; `IsCallFor` tells what was said
  pub gone : status ≡ Gone → (from : ℕ) × Asks words (Ship from)
  pub stream : status ≡ BadStream → (same : Bool) × Asks words (Follow same)
  pub full : status ≡ StandbyFull → (same : Bool) × Asks words (Follow same)
