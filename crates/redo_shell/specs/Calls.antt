-- What the calls that a command line may ask for make of the files, and that they go on any calls before.
use Rattle.std.specs.Prelude.{◌≡◌, ◌++◌, ℕ, Bool, List, ◌∷◌}
use Rattle.disk_model.specs.Disk.{Disk, LeavesOnly, Passes}
use Rattle.disk_model.specs.declared.machine.FileNo.TheVariants.{Objects}
use Rattle.formats.specs.Objects.{BeginsStore}
use Rattle.formats.specs.declared.params.Params.{Params}
use Rattle.script_lines.specs.Grammar.{lines_of}
use Rattle.command_words.specs.Words.{Asks}
use Rattle.command_words.specs.declared.asked.Asked.{Asked}
use Rattle.command_words.specs.declared.asked.Asked.TheVariants.{Init, Run, Dump, Demo, Upgrade, Ship, Follow}
use Rattle.restart.specs.Starts.{OrAtStart}
use Rattle.shell_base.specs.Store.{Command, Opens}
use Rattle.shell_base.specs.declared.budget.Budget.{Budget}
use Rattle.shell_base.specs.declared.status.Status.{Status}
use Rattle.store_words.specs.Upgrading.{IsUpgradeCall}
use Rattle.store_words.specs.Making.{IsMaking}
use Rattle.store_words.specs.Dump.{IsDumpCall}
use Rattle.standby_words.specs.Shipping.{IsShipCall}
use Rattle.standby_words.specs.Following.{IsFollowCall}
use Rattle.script_run.specs.Answers.{Moment}
use Rattle.script_run.specs.RunCalls.{IsRunCall}
use Rattle.script_run.specs.Tended.{tending_of}
use Rattle.redo_shell.specs.Causes.{OrUnread}
use Rattle.redo_shell.specs.Demo.{IsDemo}
use Rattle.redo_shell.specs.Sessions.{Ran, Sizing, by_init, by_upgrade, by_follow, Follows, Sessions}

-- what a call makes of the files and says, by what it was asked and the budget of its restart
abbrev pub IsCallFor : Budget → Asked → Type 0 → List ℕ → List ℕ → Disk → Disk → Status → Type 0
IsCallFor budget (Run tend) told left rest old new status = IsRunCall (tending_of tend) budget told left rest old new status
IsCallFor budget Dump told left rest old new status = IsDumpCall budget old new status
IsCallFor budget (Init p) told left rest old new status = IsMaking p old new status
IsCallFor budget (Upgrade q) told left rest old new status = IsUpgradeCall budget q old new status
IsCallFor budget (Demo seed steps) told left rest old new status = IsDemo seed steps old new status
IsCallFor budget (Ship from) told left rest old new status = IsShipCall budget from old new status
IsCallFor budget (Follow same) told left rest old new status = IsFollowCall budget same told left rest old new status

-- What a call with these words does, by what they ask: what its room promises, unless there is no memory to read them.
abbrev pub IsCall : Budget → List (List ℕ) → Type 0 → List ℕ → List ℕ → Disk → Disk → Status → Type 0
IsCall budget words told left rest old new status = (asked : Asked) → Asks words asked → OrUnread (IsCallFor budget asked told left rest old new status) old new status

-- What that says of a run.
abbrev pub IsRun : Budget → List (List ℕ) → Type 0 → List ℕ → List ℕ → Disk → Disk → Status → Type 0
IsRun budget words told left rest old new status = (tend : Bool) → Asks words (Run tend) → OrUnread (IsRunCall (tending_of tend) budget told left rest old new status) old new status

-- And of what a crash leaves of one, on files that stand for commands as they are read: what a crash at any moment leaves a crash at
-- the start could leave, or it stands for these commands and a beginning of those that the script has added, which splits no group;
-- they all together are no fewer than any number that was printed to be forced.
abbrev pub IsLeftByRun : List (List ℕ) → Type 0 → List ℕ → Disk → Disk → Type 0
IsLeftByRun words told left old new = (p : Params) (commands : List Command) (tend : Bool) → Asks words (Run tend) → Opens p old commands → told → old.tells_moments → LeavesOnly old new (OrAtStart old (Moment p commands (lines_of left) old.said))

-- A call with these words, whose input had `left` at its start and has `rest` at its end where its source reports it, goes on any calls
-- before it, whatever follows it: nothing, a kill at one of its moments, or a crash.
pub record GoesOn {T : Type 0} (disk : T → Disk) (words : List (List ℕ)) (told : Type 0) (left rest : List ℕ) (old new : T) : Type 0 where
  pub time : Passes (disk old) (disk new)
  pub run : (tend : Bool) (first next : T) (sizes : List Sizing) (runs : List Ran) (bytes : List ℕ) → Asks words (Run tend) → told → BeginsStore ((disk old).reads Objects) → Sessions disk first sizes runs old
      → Follows (disk old) (disk new) (disk next) ((disk old).said ++ bytes) → Sessions disk first sizes (record { script = lines_of left; bytes = bytes } ∷ runs) next
  pub run_untold : (tend : Bool) → Asks words (Run tend) → (script : List (List ℕ)) × ((first next : T) (sizes : List Sizing) (runs : List Ran) (bytes : List ℕ) → BeginsStore ((disk old).reads Objects) → Sessions disk first sizes runs old
      → Follows (disk old) (disk new) (disk next) ((disk old).said ++ bytes) → Sessions disk first sizes (record { script = script; bytes = bytes } ∷ runs) next)
  pub init : (p : Params) (first next : T) (sizes : List Sizing) (runs : List Ran) (said : List ℕ) → Asks words (Init p) → (BeginsStore ((disk old).reads Objects) → ⊥) → Sessions disk first sizes runs old
      → Follows (disk old) (disk new) (disk next) said → Sessions disk first (by_init p ∷ sizes) runs next
  pub dump : (first next : T) (sizes : List Sizing) (runs : List Ran) (said : List ℕ) → Asks words Dump → Sessions disk first sizes runs old → Follows (disk old) (disk new) (disk next) said → Sessions disk first sizes runs next
  pub upgrade : (q : Params) (first next : T) (sizes : List Sizing) (runs : List Ran) (said : List ℕ) → Asks words (Upgrade q) → Sessions disk first sizes runs old → Follows (disk old) (disk new) (disk next) said
      → Sessions disk first (by_upgrade q ∷ sizes) runs next
  pub ship : (from : ℕ) (first next : T) (sizes : List Sizing) (runs : List Ran) (said : List ℕ) → Asks words (Ship from) → Sessions disk first sizes runs old → Follows (disk old) (disk new) (disk next) said
      → Sessions disk first sizes runs next
  -- of some bytes, which the input had in front where its source reports them
  pub follow : (same : Bool) → Asks words (Follow same) → (bytes : List ℕ) × (told → left ≡ bytes ++ rest) × ((first next : T) (sizes : List Sizing) (runs : List Ran) (said : List ℕ) → Sessions disk first sizes runs old → Follows (disk old) (disk new) (disk next) said
      → Sessions disk first (by_follow bytes ∷ sizes) runs next)
