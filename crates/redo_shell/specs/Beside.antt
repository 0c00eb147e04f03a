-- What a call makes beside its answers: its notes, and its backup.
use Rattle.std.specs.Prelude.{◌≡◌, ℕ, Bool, List}
use Rattle.command_words.specs.Words.{Asks}
use Rattle.command_words.specs.declared.asked.Asked.{Asked}
use Rattle.command_words.specs.declared.asked.Asked.TheVariants.{Run}
use Rattle.disk_model.specs.Disk.{Disk, Passes}
use Rattle.disk_model.specs.declared.machine.FileNo.TheVariants.{Objects}
use Rattle.formats.specs.Objects.{BeginsStore}
use Rattle.shell_base.specs.declared.status.Status.{Status}
use Rattle.shell_base.specs.declared.budget.Budget.{Budget}
use Rattle.script_run.specs.Noted.{Noted, none_noted, HasNoted}
use Rattle.script_run.specs.Saving.{IsBackupOfRun, KeepsAll}
use Rattle.script_run.specs.Tended.{tending_of}
use Rattle.redo_shell.specs.Sessions.{Follows}

-- what a call notes, by what it was asked: only a run notes anything
abbrev pub IsNotedFor : Asked → Type 0 → List (List ℕ) → Noted → Status → Type 0
IsNotedFor (Run tend) told script noted status = told → HasNoted script noted status
IsNotedFor asked told script noted status = noted ≡ none_noted

-- What a call with these words notes of the script that its source reports (`told`).
pub record IsNotedCall (words : List (List ℕ)) (told : Type 0) (script : List (List ℕ)) (noted : Noted) (status : Status) : Type 0 where
  pub run : (tend : Bool) → Asks words (Run tend) → told → HasNoted script noted status
  pub other : ((tend : Bool) → Asks words (Run tend) → ⊥) → noted ≡ none_noted

-- What a call makes of the backup, by what it was asked: only a run does anything with it.
abbrev pub IsBackupFor : {T : Type 0} → Budget → (T → Disk) → Asked → Type 0 → List (List ℕ) → Disk → Disk → T → T → Type 0
IsBackupFor budget disk (Run tend) told script old new before after = IsBackupOfRun (tending_of tend) budget disk told script old new before after
IsBackupFor budget disk asked told script old new before after = after ≡ before

-- What a call with these words makes of the backup.
pub record IsBackupCall {T : Type 0} (budget : Budget) (disk : T → Disk) (words : List (List ℕ)) (told : Type 0) (script : List (List ℕ)) (old new : Disk) (before after : T) : Type 0 where
  pub time : Passes (disk before) (disk after)
  pub run : (tend : Bool) → Asks words (Run tend) → IsBackupOfRun (tending_of tend) budget disk told script old new before after
  pub other : ((tend : Bool) → Asks words (Run tend) → ⊥) → after ≡ before

-- Calls of the program with one machine for its backups, from the first state of it to the last. Each leaves a store that is
-- there as it is, as `kept` has it of a run and `other` of any other word, and is followed by nothing, a kill or a crash.
pub data BackupCalls {T : Type 0} (disk : T → Disk) (first : T) : T → Type 0 where
  none_yet : BackupCalls disk first first
  one_more : (old new next : T) (said : List ℕ) → BackupCalls disk first old → (BeginsStore ((disk old).reads Objects) → KeepsAll (disk old) (disk new)) → Follows (disk old) (disk new) (disk next) said → BackupCalls disk first next
