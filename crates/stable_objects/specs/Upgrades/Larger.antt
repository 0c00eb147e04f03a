-- A store of version 1 that is made larger: the slots of version 2 stand behind its own.
use Rattle.std.specs.Prelude.{◌≡◌, ◌<◌, ◌≤◌, ◌+◌, ℕ, true, List, [], ◌∷◌, length}
use Rattle.disk_model.specs.Disk.{written_over}
use Rattle.formats.specs.Bytes.{IsOpenAt}
use Rattle.formats.specs.Objects.{bounds_of, slots_end, second_form, place_in, cell_of}
use Rattle.formats.specs.declared.layout.Layout.{Layout}
use Rattle.formats.specs.declared.params.Params.{Params}
use Rattle.stable_objects.specs.SlotsView.{SlotsView, AreOf}

-- the file is of version 1
abbrev pub IsFirst : SlotsView → Type 0
IsFirst slots = slots.first ≡ 32

-- neither number is smaller, and no operations are given up
pub record IsLarger (p q : Params) : Type 0 where
  pub objects : p.objects ≤ q.objects
  pub cap : p.cap ≤ q.cap
  pub more : p.more ≡ true → q.more ≡ true

-- what a store is, and what its objects hold, is as it was
pub record IsStill (slots : SlotsView) (old new : List ℕ) : Type 0 where
  pub are : AreOf slots new
  pub cells : (x : ℕ) → x < slots.params.objects → cell_of x new ≡ cell_of x old

-- where the slots of the larger store stand
abbrev pub larger_layout : SlotsView → Params → Layout
larger_layout slots q = record { params = q; first = (second_form (bounds_of slots.params)).first }

-- the place behind the slots of the store
abbrev pub end_of_slots : SlotsView → ℕ
end_of_slots slots = slots_end (bounds_of slots.params)

-- the file, with the version's byte of version 2
abbrev pub seconded : List ℕ → List ℕ
seconded file = written_over 8 (50 ∷ []) file

-- The head of the last slot stands in the file, if the slot is open. The file of a store that was made and changed by the
-- calls of this crate has it. Without it a write behind the slots, where it is torn, could change the slot.
abbrev pub HasLastHead : SlotsView → List ℕ → Type 0
HasLastHead slots file = (x : ℕ) → x + 1 ≡ slots.params.objects → IsOpenAt (place_in file x 1) file → place_in file x 1 + 13 ≤ length file
