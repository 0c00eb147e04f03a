-- What contracts see of the slots.
use Rattle.std.specs.Prelude.{◌≡◌, ◌<◌, ◌≤◌, ◌+◌, ◌*◌, ℕ, List, nat_lt, if◌then◌else◌, slice_index_or, length}
use Rattle.formats.specs.Objects.{IsObjectsFile, form_in, slot_place, place_in, open_lsn, cell_of}
use Rattle.formats.specs.declared.layout.Layout.{Layout}
use Rattle.formats.specs.declared.params.Params.{Params}
use Rattle.stable_objects.specs.Layouts.{IsLayout}

-- the numbers of the store, the place of its first slot, the LSN in each slot, those of object x at 2x and 2x + 1, a
-- closed one has 0, and the length of each object's value
pub record SlotsView : Type 0 where
  pub params : Params
  pub first : ℕ
  pub heads : List ℕ
  pub lengths : List ℕ

-- where the slots stand
abbrev pub layout_of : SlotsView → Layout
layout_of slots = record { params = slots.params; first = slots.first }

-- the place of slot s of object x
abbrev pub place_of : SlotsView → ℕ → ℕ → ℕ
place_of slots x s = slot_place (layout_of slots) x s

-- there is one LSN for each slot, and one length for each object
pub record AreHeads (layout : Layout) (heads lengths : List ℕ) : Type 0 where
  pub is : IsLayout layout
  pub count : length heads ≡ 2 * layout.params.objects
  pub long : length lengths ≡ layout.params.objects

-- the LSN in slot s of object x
abbrev pub head : SlotsView → ℕ → ℕ → ℕ
head slots x s = slice_index_or slots.heads (2 * x + s) 0

-- which slot of an object holds it
abbrev pub holder_in : SlotsView → ℕ → ℕ
holder_in slots x = if nat_lt (head slots x 0) (head slots x 1) then 1 else 0

-- the LSN of an object
abbrev pub lsn_in : SlotsView → ℕ → ℕ
lsn_in slots x = head slots x (holder_in slots x)

-- the length of an object's value
abbrev pub length_in : SlotsView → ℕ → ℕ
length_in slots x = slice_index_or slots.lengths x 0

-- the slots are those of this objects file
pub record AreOf (slots : SlotsView) (file : List ℕ) : Type 0 where
  pub whole : IsObjectsFile slots.params file
  pub first : slots.first ≡ (form_in file).first
  pub heads : (x s : ℕ) → x < slots.params.objects → s < 2 → head slots x s ≡ open_lsn (place_in file x s) file
  pub lengths : (x : ℕ) → x < slots.params.objects → length_in slots x ≡ length (cell_of x file).value

-- an open slot has this number or a later one
abbrev pub IsLate : SlotsView → ℕ → ℕ → ℕ → Type 0
IsLate slots next x s = (0 < head slots x s) × (x < slots.params.objects) × (s < 2) × (next ≤ head slots x s)
