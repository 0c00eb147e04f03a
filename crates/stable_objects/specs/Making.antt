-- What the objects file holds while it is made.
use Rattle.std.specs.Prelude.{◌≡◌, ◌⊎◌, ◌<◌, ◌≤◌, ℕ, List, ◌∷◌, length, take, drop, codes}
use Rattle.oper_core.specs.declared.bounds.Bounds.{Bounds}
use Rattle.disk_model.specs.Disk.{Files, Disk, OthersStay}
use Rattle.disk_model.specs.declared.machine.FileNo.TheVariants.{Objects}
use Rattle.formats.specs.Bytes.{byte_at, IsClosedAt}
use Rattle.formats.specs.Objects.{IsObjectsFile, AreSlotsClosed, form_in, layout_in, params_in, slot_place, last_slot}
use Rattle.formats.specs.declared.layout.Layout.{Layout}
use Rattle.formats.specs.declared.params.Params.{Params}
use Rattle.stable_objects.specs.Layouts.{new_form, new_layout}

-- the numbers of a store with these bounds and this limit
abbrev pub params_with : Bounds → ℕ → Params
params_with b limit = record { objects = b.objects; cap = b.cap; limit = limit; more = b.more }

-- there is an objects gate, and it is closed
pub record IsClosedFile (file : List ℕ) : Type 0 where
  pub some : 0 < length file
  pub closed : IsClosedAt 0 file

-- a file that has an objects gate keeps it as it is
abbrev pub KeepsGate : List ℕ → List ℕ → Type 0
KeepsGate old new = 0 < length old → (0 < length new) × (byte_at 0 new ≡ byte_at 0 old)

-- bytes before this place that the file has stay as they are
abbrev pub KeepsFront : ℕ → List ℕ → List ℕ → Type 0
KeepsFront place old new = (length old ≤ length new) × ((j : ℕ) → j < length old → j < place → byte_at j new ≡ byte_at j old)

-- every slot gate stands in the file, and is closed
pub record HasClosedSlots (layout : Layout) (file : List ℕ) : Type 0 where
  pub whole : last_slot layout < length file
  pub slots : (x s : ℕ) → x < layout.params.objects → s < 2 → IsClosedAt (slot_place layout x s) file

-- after the gate stand the magic and the version of a new store with these numbers, and the numbers in their place
pub record HasFields (p : Params) (file : List ℕ) : Type 0 where
  pub magic : take 7 (drop 1 file) ≡ codes "RDOOBJ0"
  pub form : form_in file ≡ new_form p
  pub params : params_in file ≡ p

-- the file, with its gate open
abbrev pub opened : List ℕ → List ℕ
opened file = 1 ∷ drop 1 file

-- a new store's objects file: it is whole, and every slot is closed
pub record IsNewFile (p : Params) (file : List ℕ) : Type 0 where
  pub whole : IsObjectsFile p file
  pub closed : AreSlotsClosed p file

-- with its gate open the file is that of a new store, whose slots stand where those of a new one do
pub record IsLaidOut (p : Params) (file : List ℕ) : Type 0 where
  pub some : 0 < length file
  pub new : IsNewFile p (opened file)
  pub layout : layout_in (opened file) ≡ new_layout p

-- The objects gate is closed, or the objects file is that of a new store. The other files are as they were, and nothing was said.
pub record IsClosedOrWhole (old : Disk) (p : Params) (files : Files) (bytes : List ℕ) : Type 0 where
  pub objects : IsClosedAt 0 (files Objects) ⊎ IsNewFile p (files Objects)
  pub others : OthersStay Objects old.reads files
  pub silent : bytes ≡ old.said
