-- An objects file that changes within one slot.
use Rattle.std.proofs.Common.{◌≡◌, ◌≢◌, ◌⊎◌, inl, inr, ◌<◌, ◌≤◌, ◌+◌, ◌-◌, ◌*◌, ◌^◌, ℕ, zero, suc, List, length, take, drop, refl, sym, ◌∙◌, ap, subst, arith}
use Rattle.std.proofs.lemmas.Bool.{cases_eq}
use Rattle.formats.specs.Bytes.{byte_at, IsOpenAt, IsClosedAt}
use Rattle.oper_core.specs.Cell.{Cell}
use Rattle.formats.specs.Objects.{IsObjectsFile, IsWholeSlot, slot_place, form_in, params_in, layout_in, place_in, lsn_at, length_at, value_at, open_lsn, cell_at, cell_of}
use Rattle.formats.specs.declared.layout.Layout.{Layout}
use Rattle.formats.specs.declared.params.Params.{Params}
use Rattle.stable_objects.specs.SlotGates.{slot_gate}
use Rattle.stable_objects.specs.Replacing.{AgreesOutside, IsFilled, OthersKept}
use Rattle.stable_objects.proofs.Outside.{IsBeside, byte_beside, read_same, number_stays}
use Rattle.stable_objects.proofs.Places.{places_apart, place_within}
use Rattle.stable_objects.proofs.Cells.{AreWholeBy, whole_by, whole_cell, open_cell, closed_cell, greater, held_by, cell_is_held, held_in}
use Rattle.stable_objects.proofs.Headed.{layout_kept, headed}

-- a slot holds what it held
pub record SlotStays (cap place : ℕ) (old new : List ℕ) : Type 0 where
  pub cell : cell_at place new ≡ cell_at place old
  pub whole : IsOpenAt place new → IsWholeSlot cap place new
  pub gate : byte_at place new ≡ byte_at place old

-- an open slot outside the range
module _ (cap at n place : ℕ) (old new : List ℕ) (agrees : AgreesOutside at n old new) (reach : at ≤ length old) (apart : (place + (13 + cap) ≤ at) ⊎ (at + n ≤ place + 1)) (slot : IsWholeSlot cap place old) where
  out : (a b : ℕ) → 1 ≤ a → a + b ≤ 13 + cap → IsBeside at n old (place + a) b
  out a b some short = elim apart [ inl before ↦ inl (omega (arith, before, short), omega (arith, before, short, reach)) | inr behind ↦ inr (omega (arith, behind, some)) ]

  pub lsn_stays : lsn_at place new ≡ lsn_at place old
  lsn_stays = number_stays at n old new agrees (place + 1) 8 (out 1 8 (omega arith) (omega arith))

  pub long_stays : length_at place new ≡ length_at place old
  long_stays = number_stays at n old new agrees (place + 9) 4 (out 9 4 (omega arith) (omega arith))

  pub value_stays : value_at place new ≡ value_at place old
  value_stays =
      ap (λ (k : ℕ). take k (drop (place + 13) new)) long_stays
      ∙ read_same at n old new agrees (place + 13) (length_at place old) (out 13 (length_at place old) (omega arith) (omega (arith, slot.short)))

  pub whole_stays : IsWholeSlot cap place new
  whole_stays = record {
    some = omega (arith, slot.some, lsn_stays);
    is_lsn = omega (arith, slot.is_lsn, lsn_stays);
    short = omega (arith, slot.short, long_stays);
    within = λ some. omega (arith, slot.within (omega (arith, some, long_stays)), long_stays, agrees.no_shorter);
  }

-- a slot stays that is apart from the one that changes
pub slot_stays : (cap at place : ℕ) (old new : List ℕ) → AgreesOutside at (13 + cap) old new → at ≤ length old → (place + (13 + cap) ≤ at) ⊎ (at + (13 + cap) ≤ place) → place < length old
    → (IsOpenAt place old → IsWholeSlot cap place old) → SlotStays cap place old new
slot_stays cap at place old new agrees reach apart within slot =
    let here : (place + (13 + cap) ≤ at) ⊎ (at + (13 + cap) ≤ place + 1) = elim apart [ inl before ↦ inl before | inr behind ↦ inr (omega (arith, behind)) ] in
    let same = byte_beside at (13 + cap) old new agrees place (elim apart [ inl before ↦ inl (omega (arith, before), within) | inr behind ↦ inr behind ]) in
    record {
      gate = same;
      cell = elim (cases_eq (byte_at place old) 1) [
        | inl is_open ↦
            let is_lsn = lsn_stays cap at (13 + cap) place old new agrees reach here (slot is_open) in
            let value = value_stays cap at (13 + cap) place old new agrees reach here (slot is_open) in
            let cells : whole_cell place new ≡ whole_cell place old = λ i. record { lsn = is_lsn i; value = value i } in
            open_cell place new (same ∙ is_open) ∙ cells ∙ sym (open_cell place old is_open)
        | inr closed ↦ closed_cell place new (λ is_open. closed (sym same ∙ is_open)) ∙ sym (closed_cell place old closed)
      ];
      whole = λ is_open. whole_stays cap at (13 + cap) place old new agrees reach here (slot (sym same ∙ is_open));
    }

-- the two slots of an object differ still
pub apart_here : (layout : Layout) (x : ℕ) (old new : List ℕ) (s : ℕ) → s < 2 → cell_at (slot_place layout x (1 - s)) new ≡ cell_at (slot_place layout x (1 - s)) old
    → (IsOpenAt (slot_place layout x s) new → lsn_at (slot_place layout x s) new ≢ open_lsn (slot_place layout x (1 - s)) old)
    → IsOpenAt (slot_place layout x 0) new → IsOpenAt (slot_place layout x 1) new → lsn_at (slot_place layout x 0) new ≢ lsn_at (slot_place layout x 1) new
apart_here layout x old new zero two stays other first second same =
    other first (same ∙ sym (ap (λ (c : Cell). c.lsn) (open_cell (slot_place layout x 1) new second)) ∙ ap (λ (c : Cell). c.lsn) stays)
apart_here layout x old new (suc zero) two stays other first second same =
    other second (sym same ∙ sym (ap (λ (c : Cell). c.lsn) (open_cell (slot_place layout x 0) new first)) ∙ ap (λ (c : Cell). c.lsn) stays)
apart_here layout x old new (suc (suc s)) two stays other first second same = absurd (omega (arith, two))

-- while its slot is closed, or has a smaller LSN, an object is held by the other
pub record IsLower (cap place bound : ℕ) (file : List ℕ) : Type 0 where
  pub slot : IsOpenAt place file → IsWholeSlot cap place file
  pub less : IsOpenAt place file → lsn_at place file < bound

-- a whole file in which each object has its pair
pub record IsKept (p : Params) (x : ℕ) (old new : List ℕ) : Type 0 where
  pub whole : IsObjectsFile p new
  pub held : cell_of x new ≡ cell_of x old
  pub others : OthersKept p x old new

-- or this object the new one
pub record IsRenewed (p : Params) (x lsn : ℕ) (value old new : List ℕ) : Type 0 where
  pub whole : IsObjectsFile p new
  pub held : cell_of x new ≡ record { lsn = lsn; value = value }
  pub others : OthersKept p x old new

module _ (p : Params) (x s : ℕ) (old new : List ℕ) (is : IsObjectsFile p old) (below : x < p.objects) (two : s < 2) (agrees : AgreesOutside (place_in old x s) (13 + p.cap) old new) where
  cap_is : (params_in old).cap ≡ p.cap
  cap_is = ap (λ (q : Params). q.cap) is.params

  count_is : (params_in old).objects ≡ p.objects
  count_is = ap (λ (q : Params). q.objects) is.params

  before : (form_in old).first ≤ place_in old x s
  before = omega arith

  pub stands : layout_in new ≡ layout_in old
  stands = layout_kept p (place_in old x s) (13 + p.cap) old new is agrees before

  within : (y t : ℕ) → y < p.objects → t < 2 → place_in old y t < length old
  within y t below_y two_t = place_within (layout_in old) old y t is.whole (omega (arith, below_y, count_is)) two_t

  apart_from : (y t : ℕ) → 2 * y + t ≢ 2 * x + s → (place_in old y t + (13 + p.cap) ≤ place_in old x s) ⊎ (place_in old x s + (13 + p.cap) ≤ place_in old y t)
  apart_from y t other = subst (λ (c : ℕ). (place_in old y t + (13 + c) ≤ place_in old x s) ⊎ (place_in old x s + (13 + c) ≤ place_in old y t)) cap_is (places_apart (layout_in old) x s y t other)

  pub each_stays : (y t : ℕ) → y < p.objects → t < 2 → 2 * y + t ≢ 2 * x + s → SlotStays p.cap (place_in old y t) old new
  each_stays y t below_y two_t other =
      slot_stays p.cap (place_in old x s) (place_in old y t) old new agrees (omega (arith, within x s below two)) (apart_from y t other) (within y t below_y two_t) (is.slots.each y t below_y two_t)

  pub other_stays : SlotStays p.cap (place_in old x (1 - s)) old new
  other_stays = each_stays x (1 - s) below (omega arith) (λ same. omega (arith, same, two))

  pub others_kept : OthersKept p x old new
  others_kept y below_y other =
      let first = (each_stays y 0 below_y (omega arith) (λ same. omega (arith, same, other, two))).cell in
      let second = (each_stays y 1 below_y (omega arith) (λ same. omega (arith, same, other, two))).cell in
      let both : held_by (layout_in old) y new ≡ held_by (layout_in old) y old = λ i. greater (first i) (second i) in
      cell_is_held (layout_in old) y new stands ∙ both ∙ sym (cell_is_held (layout_in old) y old refl)

  slots_whole : (IsOpenAt (place_in old x s) new → IsWholeSlot p.cap (place_in old x s) new)
      → (IsOpenAt (place_in old x s) new → lsn_at (place_in old x s) new ≢ open_lsn (place_in old x (1 - s)) old) → AreWholeBy (layout_in old) p new
  slots_whole slot other = record {
    each = λ y t below_y two_t. elim (cases_eq (2 * y + t) (2 * x + s)) [
      | inl same ↦
          let places : place_in old y t ≡ place_in old x s = ap (λ (k : ℕ). slot_gate (layout_in old) k) same in
          subst (λ (q : ℕ). IsOpenAt q new → IsWholeSlot p.cap q new) (sym places) slot
      | inr differs ↦ (each_stays y t below_y two_t differs).whole
    ];
    apart = λ y below_y. elim (cases_eq y x) [
      | inl same ↦ subst (λ (z : ℕ). IsOpenAt (place_in old z 0) new → IsOpenAt (place_in old z 1) new → lsn_at (place_in old z 0) new ≢ lsn_at (place_in old z 1) new)
          (sym same) (apart_here (layout_in old) x old new s two other_stays.cell other)
      | inr differs ↦ λ first second alike.
          let one = each_stays y 0 below_y (omega arith) (λ same. omega (arith, same, differs, two)) in
          let next = each_stays y 1 below_y (omega arith) (λ same. omega (arith, same, differs, two)) in
          let lsn : (q : ℕ) → IsOpenAt q new → SlotStays p.cap q old new → lsn_at q new ≡ lsn_at q old = λ q is_open stays.
          sym (ap (λ (c : Cell). c.lsn) (open_cell q new is_open)) ∙ ap (λ (c : Cell). c.lsn) stays.cell ∙ ap (λ (c : Cell). c.lsn) (open_cell q old (sym stays.gate ∙ is_open)) in
          is.slots.apart y below_y (sym one.gate ∙ first) (sym next.gate ∙ second) (sym (lsn (place_in old y 0) first one) ∙ alike ∙ lsn (place_in old y 1) second next)
    ];
  }

  other_lsn : open_lsn (place_in old x (1 - s)) new ≡ open_lsn (place_in old x (1 - s)) old
  other_lsn = ap (λ (c : Cell). c.lsn) other_stays.cell

  no_greater : IsLower p.cap (place_in old x s) (open_lsn (place_in old x (1 - s)) old) new → open_lsn (place_in old x s) new ≤ open_lsn (place_in old x (1 - s)) new
  no_greater lower = elim (cases_eq (byte_at (place_in old x s) new) 1) [
    | inl is_open ↦
        let less = lower.less is_open in
        let lsn = ap (λ (c : Cell). c.lsn) (open_cell (place_in old x s) new is_open) in
        omega (arith, less, lsn, other_lsn)
    | inr closed ↦ let none = ap (λ (c : Cell). c.lsn) (closed_cell (place_in old x s) new closed) in omega (arith, none)
  ]

  -- an object keeps its pair while its other slot is closed, or has a smaller LSN
  pub kept : open_lsn (place_in old x s) old ≤ open_lsn (place_in old x (1 - s)) old → IsLower p.cap (place_in old x s) (open_lsn (place_in old x (1 - s)) old) new → IsKept p x old new
  kept le lower =
      let slots = slots_whole lower.slot (λ is_open same. let less = lower.less is_open in omega (arith, less, same)) in
      record {
        whole = headed p (place_in old x s) (13 + p.cap) old new is agrees before slots;
        held = cell_is_held (layout_in old) x new stands
            ∙ held_in (layout_in old) p x new slots below s two (no_greater lower)
            ∙ other_stays.cell
            ∙ sym (held_in (layout_in old) p x old (whole_by p old is.slots) below s two le)
            ∙ sym (cell_is_held (layout_in old) x old refl);
        others = others_kept;
      }

  -- and has the new one once that slot is open
  pub renewed : (lsn : ℕ) (value : List ℕ) → open_lsn (place_in old x (1 - s)) old < lsn → lsn < 2 ^ 62 → length value ≤ p.cap → IsOpenAt (place_in old x s) new → IsFilled (place_in old x s) lsn value new
      → IsRenewed p x lsn value old new
  renewed lsn value later is_lsn short is_open filled =
      let place = place_in old x s in
      let there = place_in old x (1 - s) in
      let slot : IsWholeSlot p.cap place new = record {
        some = omega (arith, later, filled.is_lsn);
        is_lsn = omega (arith, is_lsn, filled.is_lsn);
        short = omega (arith, short, filled.long);
        within = λ some. omega (arith, filled.long, filled.within);
      } in
      let slots = slots_whole (λ opened. slot) (λ opened same. omega (arith, same, later, filled.is_lsn)) in
      let again : 1 - (1 - s) ≡ s = omega (arith, two) in
      let here = ap (λ (c : Cell). c.lsn) (open_cell place new is_open) in
      let le : open_lsn there new ≤ open_lsn place new = omega (arith, here, filled.is_lsn, other_lsn, later) in
      let cells : whole_cell place new ≡ record { lsn = lsn; value = value } = λ i. record { lsn = filled.is_lsn i; value = filled.stands i } in
      record {
        whole = headed p (place_in old x s) (13 + p.cap) old new is agrees before slots;
        held = cell_is_held (layout_in old) x new stands
            ∙ held_in (layout_in old) p x new slots below (1 - s) (omega arith) (subst (λ (t : ℕ). open_lsn there new ≤ open_lsn (place_in old x t) new) (sym again) le)
            ∙ ap (λ (t : ℕ). cell_at (place_in old x t) new) again
            ∙ open_cell place new is_open
            ∙ cells;
        others = others_kept;
      }

-- a slot that is closed
pub closed_lower : (cap place bound : ℕ) (file : List ℕ) → IsClosedAt place file → IsLower cap place bound file
closed_lower cap place bound file closed = record { slot = λ is_open. absurd (closed is_open); less = λ is_open. absurd (closed is_open) }

-- an open one whose gate alone is torn
pub torn_lower : (cap place bound : ℕ) (old new : List ℕ) → AgreesOutside place 1 old new → place ≤ length old → IsWholeSlot cap place old → lsn_at place old < bound → IsLower cap place bound new
torn_lower cap place bound old new agrees reach slot less =
    let is_lsn = lsn_stays cap place 1 place old new agrees reach (inr (omega arith)) slot in
    record {
      slot = λ is_open. whole_stays cap place 1 place old new agrees reach (inr (omega arith)) slot;
      less = λ is_open. omega (arith, is_lsn, less);
    }
