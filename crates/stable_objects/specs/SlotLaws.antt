-- Laws of the slots: what they say of an object is what the file says, and an open slot's number is reported.
use Rattle.std.proofs.Common.{◌≡◌, ◌≢◌, ◌<◌, ◌≤◌, ◌+◌, ℕ, List, [], length, drop, sym, ◌∙◌, ap, subst, arith, inl, inr, length-take}
use Rattle.std.specs.Prelude.{Bool, cond, nat_eq, nat_lt}
use Rattle.std.proofs.lemmas.Bool.{ne_eqb, eq-eqb, cond-true, cond-false, cond_both, cases_eq, cases_lt}
use Rattle.formats.specs.Bytes.{byte_at, IsOpenAt, IsClosedAt}
use Rattle.oper_core.specs.Cell.{Cell}
use Rattle.formats.specs.Objects.{IsObjectsFile, AreSlotsClosed, open_lsn, lsn_at, length_at, value_at, slot_place, layout_in, place_in, holder, cell_at, cell_of}
use Rattle.formats.specs.Image.{IsOpenSlot}
use Rattle.formats.specs.declared.layout.Layout.{Layout}
use Rattle.formats.specs.declared.params.Params.{Params}
use Rattle.stable_objects.specs.SlotsView.{SlotsView, AreOf, IsLate, layout_of, place_of, head, lsn_in, holder_in}
use Rattle.stable_objects.specs.Reading.{IsLongValue}

-- what the slot at a place reports where it is closed, and where it is open
pub closed_tells : (place : ℕ) (file : List ℕ) → IsClosedAt place file → open_lsn place file ≡ 0
closed_tells place file closed = cond-false (nat_eq (byte_at place file) 1) (lsn_at place file) 0 (ne_eqb (byte_at place file) 1 closed)

pub open_tells : (place : ℕ) (file : List ℕ) → IsOpenAt place file → open_lsn place file ≡ lsn_at place file
open_tells place file is_open = cond-true (nat_eq (byte_at place file) 1) (lsn_at place file) 0 (eq-eqb (byte_at place file) 1 is_open)

pub closed_value : (place : ℕ) (file : List ℕ) → IsClosedAt place file → (cell_at place file).value ≡ []
closed_value place file closed = cond-false (nat_eq (byte_at place file) 1) (value_at place file) [] (ne_eqb (byte_at place file) 1 closed)

pub open_value : (place : ℕ) (file : List ℕ) → IsOpenAt place file → (cell_at place file).value ≡ value_at place file
open_value place file is_open = cond-true (nat_eq (byte_at place file) 1) (value_at place file) [] (eq-eqb (byte_at place file) 1 is_open)

-- a slot that reports a number is open
pub told_is_open : (place : ℕ) (file : List ℕ) → 0 < open_lsn place file → IsOpenAt place file
told_is_open place file some = elim (cases_eq (byte_at place file) 1) [
  | inl is_open ↦ is_open
  | inr closed ↦ absurd (omega (arith, some, closed_tells place file closed))
]

-- an object has two slots
pub one_of_two : (b : Bool) → cond b 1 0 < 2
one_of_two b = cond_both b 1 0 (λ s. s < 2) (λ is. omega arith) (λ is. omega arith)

pub holder_below : (x : ℕ) (file : List ℕ) → holder x file < 2
holder_below x file = one_of_two (nat_lt (open_lsn (place_in file x 0) file) (open_lsn (place_in file x 1) file))

-- the slot that holds an object is that of the file
pub holder_is : (slots : SlotsView) (file : List ℕ) (x : ℕ) → AreOf slots file → x < slots.params.objects → holder_in slots x ≡ holder x file
holder_is slots file x are below =
    let first = are.heads x 0 below (omega arith) in
    let second = are.heads x 1 below (omega arith) in
    ap (λ (n : ℕ). cond (nat_lt n (head slots x 1)) 1 0) first ∙ ap (λ (n : ℕ). cond (nat_lt (open_lsn (place_in file x 0) file) n) 1 0) second

-- an object's LSN is that of the file
pub lsn_is : (slots : SlotsView) (file : List ℕ) (x : ℕ) → AreOf slots file → x < slots.params.objects → lsn_in slots x ≡ (cell_of x file).lsn
lsn_is slots file x are below =
    ap (λ (s : ℕ). head slots x s) (holder_is slots file x are below) ∙ are.heads x (holder x file) below (holder_below x file)

-- the slot that holds an object with an LSN is open
pub held_is_open : (slots : SlotsView) (file : List ℕ) (x : ℕ) → AreOf slots file → x < slots.params.objects → lsn_in slots x ≢ 0
    → IsOpenAt (place_in file x (holder x file)) file
held_is_open slots file x are below some = told_is_open (place_in file x (holder x file)) file (omega (arith, some, lsn_is slots file x are below))

-- the slots stand where the file says
pub layout_of_file : (slots : SlotsView) (file : List ℕ) → AreOf slots file → layout_of slots ≡ layout_in file
layout_of_file slots file are = λ i. record { params = sym are.whole.params i; first = are.first i }

pub place_of_file : (slots : SlotsView) (file : List ℕ) (x s : ℕ) → AreOf slots file → place_of slots x s ≡ place_in file x s
place_of_file slots file x s are = ap (λ (layout : Layout). slot_place layout x s) (layout_of_file slots file are)

-- and the value in it is not too long
pub held_short : (slots : SlotsView) (file : List ℕ) (x at : ℕ) → AreOf slots file → x < slots.params.objects → lsn_in slots x ≢ 0
    → IsLongValue slots.params.cap (place_of slots x (holder_in slots x)) file at → ⊥
held_short slots file x at are below some wrong =
    let whole = are.whole.slots.each x (holder x file) below (holder_below x file) (held_is_open slots file x are below some) in
    let places : place_of slots x (holder_in slots x) ≡ place_in file x (holder x file) =
    place_of_file slots file x (holder_in slots x) are ∙ ap (λ (s : ℕ). place_in file x s) (holder_is slots file x are below) in
    let there = subst (λ (place : ℕ). IsLongValue slots.params.cap place file at) places wrong in
    there.long whole.short whole.within

-- where all slots are closed, each object has the LSN 0 and no bytes
pub closed_cells : (p : Params) (file : List ℕ) (x : ℕ) → AreSlotsClosed p file → x < p.objects → cell_of x file ≡ record { lsn = 0; value = [] }
closed_cells p file x closed below =
    let held = closed x (holder x file) below (holder_below x file) in
    let lsn = closed_tells (place_in file x (holder x file)) file held in
    let value = closed_value (place_in file x (holder x file)) file held in
    λ i. record { lsn = lsn i; value = value i }

pub closed_lsns : (slots : SlotsView) (file : List ℕ) (x : ℕ) → AreOf slots file → AreSlotsClosed slots.params file → x < slots.params.objects → lsn_in slots x ≡ 0
closed_lsns slots file x are closed below = lsn_is slots file x are below ∙ ap (λ (c : Cell). c.lsn) (closed_cells slots.params file x closed below)

-- a value has at most CAP bytes
pub value_short : (p : Params) (file : List ℕ) (x : ℕ) → IsObjectsFile p file → x < p.objects → length (cell_of x file).value ≤ p.cap
value_short p file x is below =
    let s = holder x file in
    let place = place_in file x s in
    elim (cases_eq (byte_at place file) 1) [
      | inl is_open ↦
          let whole = is.slots.each x s below (holder_below x file) is_open in
          omega (arith, ap length (open_value place file is_open), length-take (length_at place file) (drop (place + 13) file), whole.short)
      | inr closed ↦ omega (arith, ap length (closed_value place file closed))
    ]

-- with no late slot, each open one has a number below the next
pub none_late : (slots : SlotsView) (file : List ℕ) (next : ℕ) → AreOf slots file → 0 < next → ((x s : ℕ) → IsLate slots next x s → ⊥)
    → (x s : ℕ) → x < slots.params.objects → s < 2 → IsOpenAt (place_in file x s) file → lsn_at (place_in file x s) file < next
none_late slots file next are some none x s below two is_open =
    let told : head slots x s ≡ lsn_at (place_in file x s) file = are.heads x s below two ∙ open_tells (place_in file x s) file is_open in
    elim (cases_lt (lsn_at (place_in file x s) file) next) [
      | inl less ↦ less
      | inr late ↦ absurd (none x s (omega (arith, told, late, some), below, two, omega (arith, told, late)))
    ]

-- a late slot is open, with the next LSN or a later one
pub late_slot : (slots : SlotsView) (file : List ℕ) (next x s : ℕ) → AreOf slots file → IsLate slots next x s
    → IsOpenSlot file x s × (next ≤ lsn_at (place_in file x s) file)
late_slot slots file next x s are late =
    let tells = are.heads x s late.1 late.2 in
    let is_open : IsOpenAt (place_in file x s) file = told_is_open (place_in file x s) file (omega (arith, late.0, tells)) in
    let objects = ap (λ (q : Params). q.objects) are.whole.params in (
      record { below = omega (arith, late.1, objects); two = late.2; open_gate = is_open },
      omega (arith, tells, open_tells (place_in file x s) file is_open, late.3),
    )

-- an open slot with this number or a later one is late
pub is_late : (slots : SlotsView) (file : List ℕ) (next x s : ℕ) → AreOf slots file → IsOpenSlot file x s → next ≤ lsn_at (place_in file x s) file → IsLate slots next x s
is_late slots file next x s are slot late =
    let objects = ap (λ (q : Params). q.objects) are.whole.params in
    let below : x < slots.params.objects = omega (arith, slot.below, objects) in
    let tells : head slots x s ≡ lsn_at (place_in file x s) file = are.heads x s below slot.two ∙ open_tells (place_in file x s) file slot.open_gate in
    (omega (arith, tells, (are.whole.slots.each x s below slot.two slot.open_gate).some), below, slot.two, omega (arith, tells, late))
