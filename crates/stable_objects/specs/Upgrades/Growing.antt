-- What the growth of a store leaves: the store as it was, or the larger one, whose objects have the same pairs. A store of
-- version 1 becomes one of version 2 or 3, and one of version 2 one of version 3.
use Rattle.std.specs.Prelude.{◌≡◌, ◌⊎◌, ◌<◌, ◌+◌, ℕ, List, [], nat_lt, if◌then◌else◌}
use Rattle.disk_model.specs.Disk.{Files, Disk, OthersStay, Rises}
use Rattle.disk_model.specs.declared.machine.FileNo.{FileNo}
use Rattle.disk_model.specs.declared.machine.FileNo.TheVariants.{Objects}
use Rattle.oper_core.specs.Cell.{Cell}
use Rattle.formats.specs.Bytes.{byte_at}
use Rattle.formats.specs.Objects.{IsObjectsFile, cell_of, last_slot}
use Rattle.formats.specs.Reading.{FailsBy}
use Rattle.formats.specs.declared.params.Params.{Params}
use Rattle.formats.specs.declared.read_err.ReadErr.{ReadErr}
use Rattle.stable_objects.specs.Upgrades.Larger.{IsStill, HasLastHead}
use Rattle.stable_objects.specs.SlotsView.{SlotsView, AreOf, layout_of}

-- the pair that an object of a larger store gets from a file with these numbers: its own, or none where it is new
abbrev pub pair_before : Params → List ℕ → ℕ → Cell
pair_before p file x = if nat_lt x p.objects then cell_of x file else record { lsn = 0; value = [] }

-- the file is of version 2 or 3, of a store with these numbers, and its objects have the pairs that they had
pub record IsGrown (p q : Params) (old new : List ℕ) : Type 0 where
  pub version : byte_at 8 new ≡ 50
  pub whole : IsObjectsFile q new
  pub cells : (x : ℕ) → x < q.objects → cell_of x new ≡ pair_before p old x

-- the store is as it was, or the larger one
abbrev pub IsStillOrGrown : SlotsView → Params → List ℕ → List ℕ → Type 0
IsStillOrGrown slots q old new = IsStill slots old new ⊎ IsGrown slots.params q old new

-- A moment of the growth. The other files are as they were, and nothing was said.
pub record IsGrowing (old : Disk) (slots : SlotsView) (q : Params) (files : Files) (said : List ℕ) : Type 0 where
  pub objects : IsStillOrGrown slots q (old.reads Objects) (files Objects)
  pub others : OthersStay Objects old.reads files
  pub silent : said ≡ old.said

-- where the machine reports its files, the slots are those of the objects file, and its last head is whole
pub record IsReady (d : Disk) (slots : SlotsView) : Type 0 where
  pub told : d.tells_files
  pub are : AreOf slots (d.reads Objects)
  pub head : HasLastHead slots (d.reads Objects)

-- Pairs are not moved, by a fault of the disk, which then counts it, or out of memory. Damage is not reported where the file
-- is ready for it.
abbrev pub MovesNot : Disk → Disk → SlotsView → ReadErr → Type 0
MovesNot old new slots e = FailsBy (Rises old.disk_faults new.disk_faults) (λ file place. IsReady old slots → ⊥) e

-- The objects file ends within the head of its last slot, which is open: this is the place of the length there.
pub record IsCutAt (slots : SlotsView) (bytes : List ℕ) (file : FileNo) (place : ℕ) : Type 0 where
  pub cut : HasLastHead slots bytes → ⊥
  pub file_is : file ≡ Objects
  pub place_is : place ≡ last_slot (layout_of slots) + 9

-- The growth fails by a fault of the disk, which then counts it, or out of memory. Damage is reported where the file is cut, if
-- the machine reports its files, and the slots are those of the objects file.
abbrev pub GrowsNot : Disk → Disk → SlotsView → ReadErr → Type 0
GrowsNot old new slots e = FailsBy (Rises old.disk_faults new.disk_faults)
    (λ file place. old.tells_files → AreOf slots (old.reads Objects) → IsCutAt slots (old.reads Objects) file place) e
