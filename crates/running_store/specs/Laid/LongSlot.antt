-- A slot whose value is too long.
use Rattle.std.specs.Prelude.{◌≡◌, ◌≢◌, ◌<◌, ℕ, List, Contains}
use Rattle.disk_model.specs.Disk.{Files, Disk, Stays}
use Rattle.disk_model.specs.Moments.{told_agrees}
use Rattle.disk_model.specs.declared.machine.FileNo.{FileNo}
use Rattle.disk_model.specs.declared.machine.FileNo.TheVariants.{Objects}
use Rattle.stable_objects.specs.Reading.{IsLongValue}
use Rattle.stable_objects.specs.SlotLaws.{held_short}
use Rattle.stable_objects.specs.SlotsView.{SlotsView, AreOf, place_of, holder_in, lsn_in}

-- The objects file is reported to be damaged at this place. By these slots this object has an open one, and in all files that
-- agree with what was read the value there is longer than the store allows, or goes past the end of the file.
pub record IsLongSlot (d : Disk) (slots : SlotsView) (object : ℕ) (file : FileNo) (place : ℕ) : Type 0 where
  pub file_is : file ≡ Objects
  pub below : object < slots.params.objects
  pub there : lsn_in slots object ≢ 0
  pub long : (files : Files) → d.agrees files
      → IsLongValue slots.params.cap (place_of slots object (holder_in slots object)) (files Objects) place

-- one of these objects has such a slot
pub record HasLongSlot (d : Disk) (slots : SlotsView) (objects : List ℕ) (file : FileNo) (place : ℕ) : Type 0 where
  pub object : ℕ
  pub among : Contains objects object
  pub slot : IsLongSlot d slots object file place

-- no object has one, where the slots are those of some files that agree with what was read
pub long_never : (d : Disk) (slots : SlotsView) (object : ℕ) (file : FileNo) (place : ℕ) (files : Files) → d.agrees files → AreOf slots (files Objects) → IsLongSlot d slots object file place → ⊥
long_never d slots object file place files agrees are slot = held_short slots (files Objects) object place are slot.below slot.there (slot.long files agrees)

-- nor has one after calls that change nothing, on a machine that reports its files and where the slots are those of the file
pub long_untold : {old new : Disk} (slots : SlotsView) (object : ℕ) (file : FileNo) (place : ℕ) → Stays old new → old.tells_files → AreOf slots (old.reads Objects) → IsLongSlot new slots object file place → ⊥
long_untold {old = old} {new = new} slots object file place stays told are slot = long_never new slots object file place old.reads (told_agrees stays told) are slot
