-- The files of a machine to which a store is copied.
use Rattle.std.specs.Prelude.{◌≡◌, ◌⊎◌, ◌<◌, ◌^◌, ℕ, List, [], length}
use Rattle.disk_model.specs.Disk.{Files, Disk, IsSettledIn}
use Rattle.disk_model.specs.declared.machine.FileNo.TheVariants.{Objects, LogA, LogB}
use Rattle.oper_core.specs.Cell.{Cell}
use Rattle.oper_core.specs.Meaning.{Meaning}
use Rattle.formats.specs.Objects.{layout_in}
use Rattle.formats.specs.declared.params.Params.{Params}
use Rattle.explain_core.specs.History.{Member}
use Rattle.explain_core.specs.Sound.{IsSound}
use Rattle.explain_core.specs.World.{World}
use Rattle.standing.specs.Standing.{FilesShow}
use Rattle.log_blocks.specs.Creating.{IsNewLog}
use Rattle.stable_objects.specs.Upgrades.Filling.{IsFilledTo}
use Rattle.stable_objects.specs.Layouts.{new_layout}
use Rattle.stable_objects.specs.Making.{IsClosedFile, opened}

-- Its gate is closed. With its gate open it is the objects file of a store with these numbers, whose slots stand where a new
-- store's do: the objects below a number have these cells, and the slots of the others are closed.
pub record IsTarget (p : Params) (copied : ℕ) (cells : ℕ → Cell) (file : List ℕ) : Type 0 where
  pub closed : IsClosedFile file
  pub filled : IsFilledTo p copied cells (opened file)
  pub layout : layout_in (opened file) ≡ new_layout p

-- in these files the objects gate is closed
abbrev pub AreShut : Files → Type 0
AreShut files = IsClosedFile (files Objects)

-- The copy as far as it was made: the objects file is that of the cells, with a closed gate also in whatever a crash leaves,
-- and the log is a new store's.
pub record IsPartCopy (p : Params) (copied : ℕ) (cells : ℕ → Cell) (t : Disk) : Type 0 where
  pub objects : IsTarget p copied cells (t.reads Objects)
  pub shut : t.tells_moments → (files : Files) (said : List ℕ) → t.left_since t.clock files said → AreShut files
  pub log : IsNewLog t.reads
  pub settled : IsSettledIn LogA t

-- a slot may have this pair: the LSN of a record, or the LSN 0 without bytes, which is no pair
abbrev pub MayPut : ℕ → List ℕ → Type 0
MayPut lsn value = (lsn < 2 ^ 62) × (lsn ≡ 0 → value ≡ [])

-- the files with the objects gate open
abbrev pub open_files : Files → Files
open_files files Objects = opened (files Objects)
open_files files LogA = files LogA
open_files files LogB = files LogB

-- at a moment while the gate is opened it is closed, or open, and all else is as it was; nothing more is said
abbrev pub IsShutOrOpened : Disk → Files → List ℕ → Type 0
IsShutOrOpened old files said = (AreShut files ⊎ (files ≡ open_files old.reads)) × (said ≡ old.said)

-- The files are a backup of a store with this history: they show a sound world that has just these members, identity writes among
-- them, all of them stable. So the next record has the LSN that it has in the store.
pub record IsBackup {O : Type 0} (m : Meaning O) (p : Params) (history : List (Member O)) (files : Files) : Type 0 where
  pub world : World O
  pub shows : FilesShow m p files world
  pub sound : IsSound m world
  pub history_is : world.history ≡ history
  pub stable : world.forced ≡ length world.history
