-- Where slots stand.
use Rattle.std.proofs.Common.{◌≢◌, ◌⊎◌, inl, inr, ◌<◌, ◌≤◌, ◌+◌, ◌-◌, ◌*◌, ◌^◌, ℕ, List, length, arith}
use Rattle.std.proofs.lemmas.Bool.{cases_lt}
use Rattle.std.proofs.lemmas.Nat.{mul-le}
use Rattle.formats.specs.Objects.{slot_place, last_slot}
use Rattle.formats.specs.declared.layout.Layout.{Layout}
use Rattle.stable_objects.specs.Layouts.{IsLayout}
use Rattle.stable_objects.specs.SlotGates.{slot_gate}

-- the slots before a number take no more room than those before a later one
pub room : (k m n : ℕ) → k + 1 ≤ m → k * n + n ≤ m * n
room k m n less = omega (arith, mul-le (k + 1) n m n less (omega arith))

-- two slots stand apart
pub places_apart : (layout : Layout) (x s y t : ℕ) → 2 * y + t ≢ 2 * x + s
    → (slot_place layout y t + (13 + layout.params.cap) ≤ slot_place layout x s) ⊎ (slot_place layout x s + (13 + layout.params.cap) ≤ slot_place layout y t)
places_apart layout x s y t other = elim (cases_lt (2 * y + t) (2 * x + s)) [
  | inl less ↦ let fits = room (2 * y + t) (2 * x + s) (13 + layout.params.cap) (omega (arith, less)) in inl (omega (arith, fits))
  | inr le ↦ let fits = room (2 * x + s) (2 * y + t) (13 + layout.params.cap) (omega (arith, le, other)) in inr (omega (arith, fits))
]

-- each gate is within the file
pub place_within : (layout : Layout) (file : List ℕ) (y t : ℕ) → last_slot layout < length file → y < layout.params.objects → t < 2 → slot_place layout y t < length file
place_within layout file y t whole below two =
    let fits = mul-le (2 * y + t) (13 + layout.params.cap) (2 * (layout.params.objects - 1) + 1) (13 + layout.params.cap) (omega (arith, below, two)) (omega arith) in
    omega (arith, whole, fits)

-- and not far from its start
pub place_small : (layout : Layout) (slot : ℕ) → IsLayout layout → slot ≤ 2 * layout.params.objects → slot_gate layout slot < 2 ^ 40
place_small layout slot is few =
    let fits = mul-le slot (13 + layout.params.cap) 131070 1048589 (omega (arith, few, is.in_range.objects)) (omega (arith, is.in_range.cap)) in
    omega (arith, fits, is.near)
