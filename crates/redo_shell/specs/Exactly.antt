-- When each status comes exactly where its cause holds.
use Rattle.std.specs.Prelude.{◌≡◌, ◌≢◌, ◌⊎◌, ◌↔◌, ◌<◌, ◌≤◌, ◌^◌, ◌++◌, ℕ, Bool, List, length}
use Rattle.disk_model.specs.Disk.{Disk, Rises}
use Rattle.disk_model.specs.declared.machine.FileNo.{FileNo}
use Rattle.disk_model.specs.declared.machine.FileNo.TheVariants.{Objects}
use Rattle.formats.specs.Bytes.{IsOpenAt, IsClosedAt}
use Rattle.formats.specs.FirstFault.{IsDamaged}
use Rattle.formats.specs.Objects.{BeginsStore}
use Rattle.formats.specs.declared.params.Params.{Params}
use Rattle.op_codec.specs.AllOps.{all_meaning}
use Rattle.command_words.specs.Words.{Asks}
use Rattle.command_words.specs.declared.asked.Asked.TheVariants.{Init, Run, Dump, Demo, Upgrade, Ship, Follow}
use Rattle.shell_base.specs.Notices as notices
use Rattle.shell_base.specs.Status.{LacksMemory}
use Rattle.shell_base.specs.Store.{Command, IsWellFormed, Opens}
use Rattle.shell_base.specs.declared.status.Status.{Status}
use Rattle.shell_base.specs.declared.status.Status.TheVariants.{Done, DoneWithRefusals, Usage, NotAStore, AlreadyStore, Damaged, TooLong, AlreadyTwo, Smaller}
use Rattle.standby_words.specs.Following.{IsFollowEnd}
use Rattle.standby_words.specs.Shipping.{IsShipEnd}
use Rattle.redo_shell.specs.Causes.{AsksNothing, OrUnread}

-- no count of faults rose, that of the disk, of the output, of the input or of the backup's disk
pub record IsFaultless (old new : Disk) (reads_before reads_now : ℕ) (before now : Disk) : Type 0 where
  pub disk : Rises old.disk_faults new.disk_faults → ⊥
  pub output : Rises old.say_faults new.say_faults → ⊥
  pub input : Rises reads_before reads_now → ⊥
  pub backup : Rises before.disk_faults now.disk_faults → ⊥

-- the files are refused exactly where they are no store, whether there is memory or not, or break their format, and then
-- it is the first check that fails that is said
pub record OpensExactly (old new : Disk) (status : Status) : Type 0 where
  pub no_store : (status ≡ NotAStore) ↔ IsClosedAt 0 (old.reads Objects)
  pub damaged : (LacksMemory status → ⊥) → (status ≡ Damaged) ↔ (IsOpenAt 0 (old.reads Objects) × (IsWellFormed old.reads → ⊥))
  pub said : (LacksMemory status → ⊥) → (file : FileNo) (place : ℕ) → IsDamaged all_meaning old.reads file place → (status ≡ Damaged) × (new.said ≡ old.said ++ notices.damaged file place)

-- a store is made exactly where none begins
pub record MakesExactly (old : Disk) (status : Status) : Type 0 where
  pub already : (status ≡ AlreadyStore) ↔ BeginsStore (old.reads Objects)
  pub made : (BeginsStore (old.reads Objects) → ⊥) → status ≡ Done

-- A run that finds memory too succeeds on files that stand for commands, and the input is too long exactly where it has 2^40
-- bytes or more. It had `left`, where the source reports that (`told`).
pub record RunsExactly (told : Type 0) (left : List ℕ) (old : Disk) (status : Status) : Type 0 where
  pub succeeds : (p : Params) (commands : List Command) → Opens p old commands → told → length left < 2 ^ 40 → (status ≡ Done) ⊎ (status ≡ DoneWithRefusals)
  pub too_long : old.tells_files → IsWellFormed old.reads → told → (status ≡ TooLong) ↔ (2 ^ 40 ≤ length left)

-- An upgrade that finds memory is done on files that stand for commands, unless they are of version 2, or cut, or have a number
-- that is greater.
abbrev pub IsUpgradeEnd : Status → Type 0
IsUpgradeEnd status = (status ≡ Done) ⊎ ((status ≡ AlreadyTwo) ⊎ ((status ≡ Smaller) ⊎ (status ≡ Damaged)))

-- Where no count of faults rises, each status comes exactly where its cause holds.
pub record ComesExactly (words : List (List ℕ)) (told : Type 0) (left : List ℕ) (old new : Disk) (status : Status) : Type 0 where
  pub usage : (LacksMemory status → ⊥) → (status ≡ Usage) ↔ AsksNothing words
  pub run : (tend : Bool) → Asks words (Run tend) → old.tells_files → OrUnread (OpensExactly old new status) old new status
  pub runs : (tend : Bool) → Asks words (Run tend) → (LacksMemory status → ⊥) → RunsExactly told left old status
  pub dump : Asks words Dump → old.tells_files → OrUnread (OpensExactly old new status) old new status
  pub dumps : Asks words Dump → (LacksMemory status → ⊥) → (p : Params) (commands : List Command) → Opens p old commands → status ≡ Done
  pub init : (p : Params) → Asks words (Init p) → old.tells_files → OrUnread (MakesExactly old status) old new status
  -- a demo that finds memory succeeds
  pub demos : (seed steps : ℕ) → Asks words (Demo seed steps) → (LacksMemory status → ⊥) → status ≡ Done
  pub upgrades : (q : Params) → Asks words (Upgrade q) → (LacksMemory status → ⊥) → (p : Params) (commands : List Command) → Opens p old commands → IsUpgradeEnd status
  pub ship : (from : ℕ) → Asks words (Ship from) → old.tells_files → OrUnread (OpensExactly old new status) old new status
  pub ships : (from : ℕ) → Asks words (Ship from) → (LacksMemory status → ⊥) → (p : Params) (commands : List Command) → Opens p old commands → IsShipEnd status
  pub follow : (same : Bool) → Asks words (Follow same) → old.tells_files → OrUnread (OpensExactly old new status) old new status
  pub follows : (same : Bool) → Asks words (Follow same) → (LacksMemory status → ⊥) → (p : Params) (commands : List Command) → Opens p old commands → IsFollowEnd status
