-- A store that is cut, which no upgrade makes larger.
use Rattle.std.specs.Prelude.{◌≡◌, ◌⊎◌, ◌+◌, ◌++◌, ℕ, List}
use Rattle.disk_model.specs.Disk.{Files, Disk}
use Rattle.disk_model.specs.declared.machine.FileNo.TheVariants.{Objects}
use Rattle.formats.specs.Objects.{last_slot, layout_in}
use Rattle.stable_objects.specs.Upgrades.Larger.{HasLastHead}
use Rattle.stable_objects.specs.SlotsView.{SlotsView, AreOf}
use Rattle.shell_base.specs.Notices as notices
use Rattle.shell_base.specs.Store.{IsWellFormed}
use Rattle.shell_base.specs.declared.status.Status.{Status}
use Rattle.shell_base.specs.declared.status.Status.TheVariants.{Damaged}
use Rattle.shell_base.specs.Judging.{JudgesFiles}

-- a crash at some moment of the call could leave such files
abbrev pub Sometime : Disk → Disk → (Files → Type 0) → Type 0
Sometime old new P = (files : Files) × (said : List ℕ) × new.left_since old.clock files said × P files

-- the last slot of the objects file is open, and the file ends within its head, which no call of a store leaves
abbrev pub IsCutStore : Files → Type 0
IsCutStore files = (slots : SlotsView) × AreOf slots (files Objects) × (HasLastHead slots (files Objects) → ⊥)

-- where the length stands in the last slot of an objects file
abbrev pub last_length : List ℕ → ℕ
last_length bytes = last_slot (layout_in bytes) + 9

-- The store was opened, but it can't be made larger, since it is cut. That is said as damage there.
pub record SaysCut (old new : Disk) : Type 0 where
  pub whole : IsWellFormed old.reads
  pub cut : old.tells_moments → Sometime old new IsCutStore
  pub said : new.said ≡ old.said ++ notices.damaged Objects (last_length (old.reads Objects))

-- An upgrade says of the files that it finds what a run says, or that they are cut.
abbrev pub JudgesUpgrade : Disk → Disk → Status → Type 0
JudgesUpgrade old new status = JudgesFiles old new status ⊎ ((status ≡ Damaged) × SaysCut old new)
