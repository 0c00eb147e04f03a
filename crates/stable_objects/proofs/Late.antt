-- Which slot is the first whose LSN is not 0, and is a number or more.
use Rattle.std.proofs.Common.{◌≡◌, ◌<◌, ◌≤◌, ◌+◌, ◌*◌, ◌/◌, ◌%◌, ℕ, zero, suc, List, [], ◌∷◌, length, get_or, refl, ◌∙◌, ap, arith, inl, inr, Option, Some, None, position}
use Rattle.std.specs.Prelude.{Bool, true, false, cond, ◌&&◌, nat_lt, nat_le, IfNone}
use Rattle.std.specs.List.{position_or_len}
use Rattle.std.proofs.lemmas.Bool.{leb-true, leb-false, ltb-true, ltb-false, and_parts, and_cases, cases_Bool, cases_lt}
use Rattle.std.proofs.lemmas.List.Quantifiers.{position-Some}
use Rattle.stable_objects.specs.SlotGates.{slot_gate}
use Rattle.stable_objects.specs.SlotsView.{SlotsView, AreHeads, IsLate, layout_of, place_of}

-- an LSN is not 0, and is a number or more
abbrev is_late : ℕ → ℕ → Bool
is_late next lsn = nat_lt 0 lsn && nat_le next lsn

late_is : (next lsn : ℕ) → is_late next lsn ≡ true → (0 < lsn) × (next ≤ lsn)
late_is next lsn is = let parts = and_parts (nat_lt 0 lsn) (nat_le next lsn) is in (ltb-true 0 lsn parts.0, leb-true next lsn parts.1)

not_late : (next lsn : ℕ) → is_late next lsn ≡ false → 0 < lsn → lsn < next
not_late next lsn is some = elim (and_cases (nat_lt 0 lsn) (nat_le next lsn) is) [
  | inl none ↦ absurd (omega (arith, some, ltb-false 0 lsn none))
  | inr below ↦ leb-false next lsn below
]

-- the place of the first one, or the length
abbrev late_from : ℕ → List ℕ → ℕ
late_from next lsns_kept = position_or_len (λ lsn. nat_lt 0 lsn && nat_le next lsn) lsns_kept

is_here : (next lsn : ℕ) (lsns_kept : List ℕ) → is_late next lsn ≡ true → late_from next (lsn ∷ lsns_kept) ≡ 0
is_here next lsn lsns_kept is = rw is refl

not_here : (next lsn : ℕ) (lsns_kept : List ℕ) → is_late next lsn ≡ false → late_from next (lsn ∷ lsns_kept) ≡ 1 + late_from next lsns_kept
not_here next lsn lsns_kept is = rw is refl

-- where there is none, each that is not 0 is below
all_below : (next : ℕ) (lsns_kept : List ℕ) (k : ℕ) → length lsns_kept ≤ late_from next lsns_kept → 0 < get_or lsns_kept k 0 → get_or lsns_kept k 0 < next
all_below next [] k past some = absurd (omega (arith, some))
all_below next (lsn ∷ lsns_kept) zero past some = elim (cases_Bool (is_late next lsn)) [
  | inl late ↦ absurd (omega (arith, past, is_here next lsn lsns_kept late))
  | inr below ↦ not_late next lsn below some
]
all_below next (lsn ∷ lsns_kept) (suc k) past some = elim (cases_Bool (is_late next lsn)) [
  | inl late ↦ absurd (omega (arith, past, is_here next lsn lsns_kept late))
  | inr below ↦ all_below next lsns_kept k (omega (arith, past, not_here next lsn lsns_kept below)) some
]

not_found : (b : Bool) (n : ℕ) → cond b (Some n) None ≡ None → b ≡ false
not_found true n is = absurd cc
not_found false n is = refl

-- no slot has a late number
pub none_found : (slots : SlotsView) (next : ℕ) → position (λ lsn. nat_lt 0 lsn && nat_le next lsn) slots.heads ≡ None → (x s : ℕ) → IsLate slots next x s → ⊥
none_found slots next none x s late =
    let past = ltb-false (late_from next slots.heads) (length slots.heads) (not_found _ _ none) in
    let below = all_below next slots.heads (2 * x + s) past late.0 in
    omega (arith, below, late.3)

-- the first slot that has one
pub found_first : (slots : SlotsView) (next i gate : ℕ) → AreHeads (layout_of slots) slots.heads slots.lengths → position (λ lsn. nat_lt 0 lsn && nat_le next lsn) slots.heads ≡ Some i → gate ≡ slot_gate (layout_of slots) i
    → (x : ℕ) × (s : ℕ) × IsLate slots next x s × (gate + 1 ≡ place_of slots x s + 1) × ((y t : ℕ) → IsLate slots next y t → 2 * x + s ≤ 2 * y + t)
found_first slots next i gate are found here_is =
    let first = position-Some (λ lsn. nat_lt 0 lsn && nat_le next lsn) slots.heads i 0 found in
    let halves : i ≡ 2 * (i / 2) + i % 2 = omega arith in
    let late = late_is next (get_or slots.heads i 0) first.1 in
    let same = ap (λ (k : ℕ). get_or slots.heads k 0) halves in
    let some : 0 < get_or slots.heads (2 * (i / 2) + i % 2) 0 = omega (arith, late.0, same) in
    let here : next ≤ get_or slots.heads (2 * (i / 2) + i % 2) 0 = omega (arith, late.1, same) in
    let others : (y t : ℕ) → IsLate slots next y t → 2 * (i / 2) + i % 2 ≤ 2 * y + t = λ y t other. elim (cases_lt (2 * y + t) i) [
      | inl less ↦ let below = not_late next (get_or slots.heads (2 * y + t) 0) (first.2 (2 * y + t) less) other.0 in absurd (omega (arith, below, other.3))
      | inr more ↦ omega (arith, more, halves)
    ] in
    (i / 2, i % 2, (some, omega (arith, first.0, are.count, halves), omega arith, here), ap (λ (k : ℕ). k + 1) here_is ∙ ap (λ (k : ℕ). slot_gate (layout_of slots) k + 1) halves, others)

-- a fact that holds anyway holds of no answer
pub none_anyway : (o : Option ℕ) (P : Type 0) → P → IfNone o P
none_anyway None P p = p
none_anyway (Some n) P p = tt
