-- What a redo finds damaged.
use Rattle.std.specs.Prelude.{◌≡◌, ◌≢◌, ◌⊎◌, ℕ}
use Rattle.disk_model.specs.Disk.{Disk}
use Rattle.disk_model.specs.declared.machine.FileNo.{FileNo}
use Rattle.disk_model.specs.declared.machine.FileNo.TheVariants.{Objects}
use Rattle.oper_core.specs.Meaning.{Meaning}
use Rattle.log_blocks.specs.LogView.{LogView}
use Rattle.log_records.specs.Loading.{IsTailFault}
use Rattle.stable_objects.specs.SlotsView.{SlotsView, AreOf, layout_of}
use Rattle.running_store.specs.Laid.LongSlot.{IsLongSlot}

-- A slot is damaged: never on a machine that reports its files, where the slots before were those of the file. On each machine
-- it is the slot of some object, by the slots after, and its value is too long; the slots stand where they stood.
pub record IsSlotFault (old new : Disk) (before after : SlotsView) (file : FileNo) (place : ℕ) : Type 0 where
  pub never : old.tells_files → AreOf before (old.reads Objects) → ⊥
  pub layout : layout_of after ≡ layout_of before
  pub object : ℕ
  pub long : IsLongSlot new after object file place

-- A slot is damaged; or, where the log is not in the objects file, a record of it breaks its format in all files that agree with
-- what was read and have the log whole. No redo writes that file. Of a log in the objects file the latter says nothing; where
-- some files agree with what was read, a restart loads no log from there.
abbrev pub IsRedoFault : {O : Type 0} → Meaning O → Disk → Disk → LogView → SlotsView → SlotsView → FileNo → ℕ → Type 0
IsRedoFault m old new log before after file place =
    IsSlotFault old new before after file place ⊎ (log.active ≢ Objects → IsTailFault m new log file place)
