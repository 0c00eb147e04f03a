-- What slots hold, and what of it a change within one slot leaves.
use Rattle.std.proofs.Common.{◌≡◌, ◌≢◌, inl, inr, ◌<◌, ◌≤◌, ◌-◌, ℕ, zero, suc, Bool, true, false, if◌then◌else◌, nat_lt, List, [], refl, sym, ◌∙◌, ap, subst, arith}
use Rattle.std.proofs.lemmas.Bool.{cases_eq, eq-eqb, ne_eqb, lt-ltb, le-ltb}
use Rattle.formats.specs.Bytes.{byte_at, IsOpenAt, IsClosedAt}
use Rattle.oper_core.specs.Cell.{Cell}
use Rattle.formats.specs.Objects.{AreSlotsWhole, IsWholeSlot, slot_place, layout_in, place_in, lsn_at, value_at, open_lsn, cell_at, cell_of}
use Rattle.formats.specs.declared.layout.Layout.{Layout}
use Rattle.formats.specs.declared.params.Params.{Params}

abbrev pub no_cell : Cell
no_cell = record { lsn = 0; value = [] }

abbrev pub whole_cell : ℕ → List ℕ → Cell
whole_cell place file = record { lsn = lsn_at place file; value = value_at place file }

pub open_cell : (place : ℕ) (file : List ℕ) → IsOpenAt place file → cell_at place file ≡ whole_cell place file
open_cell place file is_open = ap (λ (b : Bool). record { lsn = if b then lsn_at place file else 0; value = if b then value_at place file else [] }) (eq-eqb (byte_at place file) 1 is_open)

pub closed_cell : (place : ℕ) (file : List ℕ) → IsClosedAt place file → cell_at place file ≡ no_cell
closed_cell place file closed = ap (λ (b : Bool). record { lsn = if b then lsn_at place file else 0; value = if b then value_at place file else [] }) (ne_eqb (byte_at place file) 1 closed)

-- the cell with the greater LSN, the first of two equal ones
abbrev pub greater : Cell → Cell → Cell
greater a b = if nat_lt a.lsn b.lsn then b else a

-- what an object holds, where its slots stand so
abbrev pub held_by : Layout → ℕ → List ℕ → Cell
held_by layout x file = greater (cell_at (slot_place layout x 0) file) (cell_at (slot_place layout x 1) file)

chosen : (x : ℕ) (file : List ℕ) (b : Bool) → cell_at (place_in file x (if b then 1 else 0)) file ≡ (if b then cell_at (place_in file x 1) file else cell_at (place_in file x 0) file)
chosen x file true = refl
chosen x file false = refl

pub cell_is_held : (layout : Layout) (x : ℕ) (file : List ℕ) → layout_in file ≡ layout → cell_of x file ≡ held_by layout x file
cell_is_held layout x file same = chosen x file (nat_lt (open_lsn (place_in file x 0) file) (open_lsn (place_in file x 1) file)) ∙ ap (λ (l : Layout). held_by l x file) same

-- each open slot is whole, where the slots stand so
pub record AreWholeBy (layout : Layout) (p : Params) (file : List ℕ) : Type 0 where
  pub each : (x s : ℕ) → x < p.objects → s < 2 → IsOpenAt (slot_place layout x s) file → IsWholeSlot p.cap (slot_place layout x s) file
  pub apart : (x : ℕ) → x < p.objects → IsOpenAt (slot_place layout x 0) file → IsOpenAt (slot_place layout x 1) file → lsn_at (slot_place layout x 0) file ≢ lsn_at (slot_place layout x 1) file

pub whole_by : (p : Params) (file : List ℕ) → AreSlotsWhole p file → AreWholeBy (layout_in file) p file
whole_by p file slots = record { each = slots.each; apart = slots.apart }

pub whole_in : (layout : Layout) (p : Params) (file : List ℕ) → layout_in file ≡ layout → AreWholeBy layout p file → AreSlotsWhole p file
whole_in layout p file same slots = let here = subst (λ (l : Layout). AreWholeBy l p file) (sym same) slots in record { each = here.each; apart = here.apart }

second_is_greater : (a b : Cell) → a.lsn < b.lsn → greater a b ≡ b
second_is_greater a b less = ap (λ (c : Bool). if c then b else a) (lt-ltb a.lsn b.lsn less)

first_is_greater : (a b : Cell) → b.lsn ≤ a.lsn → greater a b ≡ a
first_is_greater a b le = ap (λ (c : Bool). if c then b else a) (le-ltb a.lsn b.lsn le)

-- an open slot has an LSN, so one without is closed
some_lsn : (cap place : ℕ) (file : List ℕ) → IsWholeSlot cap place file → IsOpenAt place file → 1 ≤ (cell_at place file).lsn
some_lsn cap place file whole is_open = omega (arith, whole.some, ap (λ (c : Cell). c.lsn) (open_cell place file is_open))

pub closed_where_none : (cap place : ℕ) (file : List ℕ) → (IsOpenAt place file → IsWholeSlot cap place file) → open_lsn place file ≡ 0 → IsClosedAt place file
closed_where_none cap place file whole none is_open = let some = some_lsn cap place file (whole is_open) is_open in omega (arith, some, none)

pub open_where_some : (place : ℕ) (file : List ℕ) → open_lsn place file ≢ 0 → IsOpenAt place file
open_where_some place file some = elim (cases_eq (byte_at place file) 1) [
  | inl is_open ↦ is_open
  | inr closed ↦ absurd (some (ap (λ (c : Cell). c.lsn) (closed_cell place file closed)))
]

-- two slots of one object with one LSN are closed
module _ (layout : Layout) (p : Params) (x : ℕ) (file : List ℕ) (slots : AreWholeBy layout p file) (below : x < p.objects) where
  abbrev place : ℕ → ℕ
  place s = slot_place layout x s

  first_none : open_lsn (place 0) file ≡ open_lsn (place 1) file → cell_at (place 0) file ≡ no_cell
  first_none same = elim (cases_eq (byte_at (place 0) file) 1) [
    | inr closed ↦ closed_cell (place 0) file closed
    | inl is_open ↦ elim (cases_eq (byte_at (place 1) file) 1) [
      | inl also ↦ absurd (slots.apart x below is_open also
          (sym (ap (λ (c : Cell). c.lsn) (open_cell (place 0) file is_open)) ∙ same ∙ ap (λ (c : Cell). c.lsn) (open_cell (place 1) file also)))
      | inr closed ↦
          let some = some_lsn p.cap (place 0) file (slots.each x 0 below (omega arith) is_open) is_open in
          let none = ap (λ (c : Cell). c.lsn) (closed_cell (place 1) file closed) in
          absurd (omega (arith, some, same, none))
    ]
  ]

  second_none : open_lsn (place 0) file ≡ open_lsn (place 1) file → cell_at (place 1) file ≡ no_cell
  second_none same =
      let none = ap (λ (c : Cell). c.lsn) (first_none same) in
      closed_cell (place 1) file (closed_where_none p.cap (place 1) file (slots.each x 1 below (omega arith)) (sym same ∙ none))

  -- an object is held by the slot whose LSN is no smaller
  pub held_in : (s : ℕ) → s < 2 → open_lsn (place s) file ≤ open_lsn (place (1 - s)) file → held_by layout x file ≡ cell_at (place (1 - s)) file
  held_in zero two le = elim (cases_eq (open_lsn (place 0) file) (open_lsn (place 1) file)) [
    | inl same ↦ first_is_greater (cell_at (place 0) file) (cell_at (place 1) file) (omega (arith, same)) ∙ first_none same ∙ sym (second_none same)
    | inr other ↦ second_is_greater (cell_at (place 0) file) (cell_at (place 1) file) (omega (arith, le, other))
  ]
  held_in (suc zero) two le = first_is_greater (cell_at (place 0) file) (cell_at (place 1) file) le
  held_in (suc (suc s)) two le = absurd (omega (arith, two))

  -- and where the other one is open, its LSN is smaller
  pub less_where_open : (s : ℕ) → s < 2 → open_lsn (place s) file ≤ open_lsn (place (1 - s)) file → open_lsn (place s) file ≢ 0
      → open_lsn (place s) file < open_lsn (place (1 - s)) file
  less_where_open zero two le some = elim (cases_eq (open_lsn (place 0) file) (open_lsn (place 1) file)) [
    | inl same ↦ absurd (some (ap (λ (c : Cell). c.lsn) (first_none same)))
    | inr other ↦ omega (arith, le, other)
  ]
  less_where_open (suc zero) two le some = elim (cases_eq (open_lsn (place 0) file) (open_lsn (place 1) file)) [
    | inl same ↦ absurd (some (ap (λ (c : Cell). c.lsn) (second_none same)))
    | inr other ↦ omega (arith, le, other)
  ]
  less_where_open (suc (suc s)) two le some = absurd (omega (arith, two))
