-- The last slot's head, and whether the file has it.
use Rattle.std.proofs.Common.{◌≡◌, ◌≢◌, ◌<◌, ◌≤◌, ◌+◌, ◌*◌, ◌-◌, ℕ, List, length, sym, ◌∙◌, ap, arith}
use Rattle.std.specs.Prelude.{slice_index_or}
use Rattle.formats.specs.Bytes.{IsOpenAt}
use Rattle.formats.specs.Objects.{last_slot, place_in, open_lsn}
use Rattle.stable_objects.specs.Upgrades.Larger.{HasLastHead}
use Rattle.stable_objects.specs.SlotGates.{slot_gate}
use Rattle.stable_objects.specs.SlotLaws.{open_tells, told_is_open, place_of_file}
use Rattle.stable_objects.specs.SlotsView.{SlotsView, AreOf, layout_of}

-- the gate of the last slot, counted through the file
pub last_gate : (slots : SlotsView) (last : ℕ) → last + 1 ≡ 2 * slots.params.objects → slot_gate (layout_of slots) last ≡ last_slot (layout_of slots)
last_gate slots last is_last =
    let here : last ≡ 2 * (slots.params.objects - 1) + 1 = omega (arith, is_last) in ap (λ (k : ℕ). slot_gate (layout_of slots) k) here

module _ (slots : SlotsView) (file : List ℕ) (are : AreOf slots file) (last : ℕ) (is_last : last + 1 ≡ 2 * slots.params.objects) where
  here : (x : ℕ) → x + 1 ≡ slots.params.objects → 2 * x + 1 ≡ last
  here x end = omega (arith, end, is_last)

  told : (x : ℕ) → x + 1 ≡ slots.params.objects → slice_index_or slots.heads last 0 ≡ open_lsn (place_in file x 1) file
  told x end = sym (ap (λ (k : ℕ). slice_index_or slots.heads k 0) (here x end)) ∙ are.heads x 1 (omega (arith, end)) (omega arith)

  spot : (x : ℕ) → x + 1 ≡ slots.params.objects → slot_gate (layout_of slots) last ≡ place_in file x 1
  spot x end = sym (ap (λ (k : ℕ). slot_gate (layout_of slots) k) (here x end)) ∙ place_of_file slots file x 1 are

  -- it is not looked at where the slot is closed
  pub closed_last : slice_index_or slots.heads last 0 ≡ 0 → HasLastHead slots file
  closed_last none x end is_open =
      let slot = are.whole.slots.each x 1 (omega (arith, end)) (omega arith) is_open in
      absurd (omega (arith, none, told x end, open_tells (place_in file x 1) file is_open, slot.some))

  module _ (place size : ℕ) (at : place ≡ slot_gate (layout_of slots) last) (size_is : size ≡ length file) where
    -- a long file has it
    pub long_enough : place + 13 ≤ size → HasLastHead slots file
    long_enough le x end is_open = omega (arith, at, spot x end, size_is, le)

    -- and a shorter one doesn't, where the slot is open
    pub cut_head : slice_index_or slots.heads last 0 ≢ 0 → size < place + 13 → HasLastHead slots file → ⊥
    cut_head some less whole =
        let x = slots.params.objects - 1 in
        let end : x + 1 ≡ slots.params.objects = omega (arith, is_last) in
        let is_open : IsOpenAt (place_in file x 1) file = told_is_open (place_in file x 1) file (omega (arith, some, told x end)) in
        omega (arith, whole x end is_open, at, spot x end, size_is, less)
