-- Gates of slots that are ready are opened, any of them, and each object has the pair that it had or the one that it is to have.
use Rattle.std.proofs.Common.{◌≡◌, ◌≢◌, ◌⊎◌, inl, inr, ◌<◌, ◌≤◌, ◌+◌, ◌-◌, ◌*◌, ℕ, zero, suc, List, length, sym, ◌∙◌, ap, subst, arith}
use Rattle.std.specs.Prelude.{IsTrue, IsFalse}
use Rattle.std.proofs.lemmas.Bool.{both_ways, cases_Bool, cases_eq}
use Rattle.oper_core.specs.Cell.{Cell}
use Rattle.oper_core.specs.State.{is_among}
use Rattle.formats.specs.Bytes.{byte_at, IsOpenAt, IsClosedAt}
use Rattle.formats.specs.Objects.{IsObjectsFile, IsWholeSlot, form_in, layout_in, last_slot, lsn_at, open_lsn, place_in, slot_place, cell_at, cell_of}
use Rattle.formats.specs.declared.layout.Layout.{Layout}
use Rattle.formats.specs.declared.params.Params.{Params}
use Rattle.stable_objects.specs.Making.{KeepsFront}
use Rattle.stable_objects.specs.Ready.{AreHeld, AreOldOrNew, AreOpened, AreReady, IsGateOf, KeepsButGatesOf}
use Rattle.stable_objects.specs.Replacing.{AgreesOutside, spare_in}
use Rattle.stable_objects.specs.SlotLaws.{layout_of_file, place_of_file}
use Rattle.stable_objects.specs.SlotsView.{SlotsView, AreOf, head, layout_of, length_in, place_of}
use Rattle.stable_objects.specs.Spares.{spare_place}
use Rattle.stable_objects.proofs.Upgraded.Behind.{front_agrees}
use Rattle.stable_objects.proofs.Cells.{AreWholeBy, whole_by, whole_cell, open_cell, closed_cell, greater, cell_is_held, held_in, closed_where_none, less_where_open}
use Rattle.stable_objects.proofs.Changed.{SlotStays, apart_here}
use Rattle.stable_objects.proofs.Headed.{headed, layout_kept}
use Rattle.stable_objects.proofs.Replaced.{IsSpare, spare}
use Rattle.stable_objects.proofs.Spares.{cells_kept, no_gate, slot_kept, whole_kept}

module _ (slots : SlotsView) (objects : List ℕ) (pairs : ℕ → Cell) (old new : List ℕ) (are : AreOf slots old) (ready : AreReady slots old objects pairs) (keeps : KeepsButGatesOf slots objects old new) where
  abbrev p : Params
  p = slots.params

  abbrev layout : Layout
  layout = layout_of slots

  layout_was : layout_in old ≡ layout
  layout_was = sym (layout_of_file slots old are)

  byte_kept : (j : ℕ) → (IsGateOf slots objects j → ⊥) → byte_at j new ≡ byte_at j old
  byte_kept j none = keeps.same (subst (λ (l : Layout). last_slot l < length old) layout_was are.whole.whole) j none

  -- no byte before the slots is a gate
  before_slots : (j : ℕ) → j < slots.first → IsGateOf slots objects j → ⊥
  before_slots j less gate = absurd (omega (arith, gate.here, less))

  front : KeepsFront (form_in old).first old new
  front = (keeps.no_shorter, λ j within less. byte_kept j (before_slots j (omega (arith, less, are.first))))

  agrees : AgreesOutside (form_in old).first (length new) old new
  agrees = front_agrees (form_in old).first old new front

  layout_stays : layout_in new ≡ layout_in old
  layout_stays = layout_kept p (form_in old).first (length new) old new are.whole agrees (omega arith)

  old_slots : AreWholeBy layout p old
  old_slots = subst (λ (l : Layout). AreWholeBy l p old) layout_was (whole_by p old are.whole.slots)

  head_is : (x s : ℕ) → x < p.objects → s < 2 → head slots x s ≡ open_lsn (place_of slots x s) old
  head_is x s below two = are.heads x s below two ∙ ap (λ (q : ℕ). open_lsn q old) (sym (place_of_file slots old x s are))

  -- a slot that is no spare one
  other_kept : (y t : ℕ) → y < p.objects → t < 2 → t ≢ spare_in slots y → SlotStays p.cap (place_of slots y t) old new
  other_kept y t below two other =
      let apart : (x : ℕ) → 2 * y + t ≢ 2 * x + spare_in slots x = λ x same.
      let found = (spare slots x).two in
      let here : y ≡ x = omega (arith, same, two, found) in
      other (omega (arith, same, here, ap (λ (k : ℕ). spare_in slots k) here)) in
      let kept : (j : ℕ) → j < 13 + p.cap → byte_at (place_of slots y t + j) new ≡ byte_at (place_of slots y t + j) old =
      λ j less. byte_kept (place_of slots y t + j) (λ gate. no_gate slots y t j less gate.object (apart gate.object) gate.here) in
      let spot : place_of slots y t + 0 ≡ place_of slots y t = omega arith in
      slot_kept p.cap (place_of slots y t) old new keeps.no_shorter (λ j some less. kept j less)
      (ap (λ (k : ℕ). byte_at k new) (sym spot) ∙ kept 0 (omega arith) ∙ ap (λ (k : ℕ). byte_at k old) spot) (old_slots.each y t below two)

  module _ (x : ℕ) (below : x < p.objects) where
    abbrev s : ℕ
    s = spare_in slots x

    abbrev place : ℕ
    place = spare_place slots x

    found : IsSpare slots x s
    found = spare slots x

    apart_from : (z : ℕ) → z ≢ x → 2 * x + s ≢ 2 * z + spare_in slots z
    apart_from z differs same = let there = (spare slots z).two in let here = found.two in differs (omega (arith, same, there, here))

    -- what stands behind the gate stays
    inside_kept : (j : ℕ) → 1 ≤ j → j < 13 + p.cap → byte_at (place + j) new ≡ byte_at (place + j) old
    inside_kept j low high = byte_kept (place + j) (λ gate. elim (cases_eq gate.object x) [
      | inl here ↦ absurd (omega (arith, gate.here, ap (λ (k : ℕ). spare_place slots k) here, low))
      | inr differs ↦ no_gate slots x s j high gate.object (apart_from gate.object differs) gate.here
    ])

    -- and so does the gate of an object that is none of these
    gate_kept : IsFalse (is_among x objects) → byte_at place new ≡ byte_at place old
    gate_kept off = byte_kept place (λ gate. elim (cases_eq gate.object x) [
      | inl here ↦ both_ways _ off (subst (λ (k : ℕ). IsTrue (is_among k objects)) here gate.among)
      | inr differs ↦ no_gate slots x s 0 (omega arith) gate.object (apart_from gate.object differs) (omega (arith, gate.here))
    ])

    other_stays : SlotStays p.cap (place_of slots x (1 - s)) old new
    other_stays = other_kept x (1 - s) below (omega arith) (λ same. let here = found.two in omega (arith, same, here))

    other_lsn : open_lsn (place_of slots x (1 - s)) new ≡ head slots x (1 - s)
    other_lsn = ap (λ (c : Cell). c.lsn) other_stays.cell ∙ sym (head_is x (1 - s) below (omega arith))

    slot_stays : IsFalse (is_among x objects) → SlotStays p.cap place old new
    slot_stays off = slot_kept p.cap place old new keeps.no_shorter inside_kept (gate_kept off) (old_slots.each x s below found.two)

    -- one of these
    module _ (among : IsTrue (is_among x objects)) where
      ready_slot : IsWholeSlot p.cap place old
      ready_slot = let is = ready x among in record {
        some = omega (arith, is.filled.is_lsn, is.later);
        is_lsn = omega (arith, is.filled.is_lsn, is.is_lsn);
        short = omega (arith, is.filled.long, is.short);
        within = λ some. omega (arith, is.filled.within, is.filled.long);
      }

      filled_still : whole_cell place new ≡ pairs x
      filled_still =
          let is = ready x among in
          let cells : whole_cell place old ≡ pairs x = λ i. record { lsn = is.filled.is_lsn i; value = is.filled.stands i } in
          cells_kept p.cap place old new keeps.no_shorter inside_kept ready_slot ∙ cells

      was_closed : IsClosedAt place old
      was_closed = closed_where_none p.cap place old (old_slots.each x s below found.two) (sym (head_is x s below found.two) ∙ (ready x among).closed)

      above : head slots x (1 - s) < (pairs x).lsn
      above = omega (arith, found.other, (ready x among).later)

    -- the spare slot holds what it held, or it is one of these and its gate is open
    by_gate : (cell_at place new ≡ cell_at place old) ⊎ (IsTrue (is_among x objects) × IsOpenAt place new)
    by_gate = elim (cases_Bool (is_among x objects)) [
      | inr off ↦ inl (slot_stays off).cell
      | inl among ↦ elim (cases_eq (byte_at place new) 1) [
        | inl is_open ↦ inr (among, is_open)
        | inr closed ↦ inl (closed_cell place new closed ∙ sym (closed_cell place old (was_closed among)))
      ]
    ]

    -- an open one is whole
    whole_here : IsOpenAt place new → IsWholeSlot p.cap place new
    whole_here is_open = elim (cases_Bool (is_among x objects)) [
      | inr off ↦ (slot_stays off).whole is_open
      | inl among ↦ whole_kept p.cap place old new keeps.no_shorter inside_kept (ready_slot among)
    ]

    -- and has another LSN than the other slot
    differs_here : IsOpenAt place new → lsn_at place new ≢ open_lsn (place_of slots x (1 - s)) old
    differs_here is_open same = elim (cases_Bool (is_among x objects)) [
      | inl among ↦ let lsn = ap (λ (c : Cell). c.lsn) (filled_still among) in absurd (omega (arith, lsn, same, above among, head_is x (1 - s) below (omega arith)))
      | inr off ↦
          let stays = slot_stays off in
          let lsn_new = ap (λ (c : Cell). c.lsn) (open_cell place new is_open) in
          let lsn_same = ap (λ (c : Cell). c.lsn) stays.cell in
          let some = (stays.whole is_open).some in
          let le : open_lsn place old ≤ open_lsn (place_of slots x (1 - s)) old = omega (arith, head_is x s below found.two, head_is x (1 - s) below (omega arith), found.lower) in
          let there : open_lsn place old ≢ 0 = λ none. absurd (omega (arith, none, lsn_same, lsn_new, some)) in
          let less = less_where_open layout p x old old_slots below s found.two le there in
          absurd (omega (arith, less, same, lsn_new, lsn_same))
    ]

  new_slots : AreWholeBy layout p new
  new_slots = record {
    each = λ y t below two. elim (cases_eq t (spare_in slots y)) [
      | inl same ↦ subst (λ (k : ℕ). IsOpenAt (place_of slots y k) new → IsWholeSlot p.cap (place_of slots y k) new) (sym same) (whole_here y below)
      | inr other ↦ (other_kept y t below two other).whole
    ];
    apart = λ y below. apart_here layout y old new (spare_in slots y) (found y below).two (other_stays y below).cell (differs_here y below);
  }

  -- an object whose spare slot holds what it held has the pair that it had
  cells_same : (x s : ℕ) → s < 2 → cell_at (place_of slots x s) new ≡ cell_at (place_of slots x s) old → cell_at (place_of slots x (1 - s)) new ≡ cell_at (place_of slots x (1 - s)) old → cell_of x new ≡ cell_of x old
  cells_same x s two here there =
      cell_is_held layout x new (layout_stays ∙ layout_was)
      ∙ by_slot s two here there
      ∙ sym (cell_is_held layout x old layout_was)
    where
      both : cell_at (place_of slots x 0) new ≡ cell_at (place_of slots x 0) old → cell_at (place_of slots x 1) new ≡ cell_at (place_of slots x 1) old
          → greater (cell_at (place_of slots x 0) new) (cell_at (place_of slots x 1) new) ≡ greater (cell_at (place_of slots x 0) old) (cell_at (place_of slots x 1) old)
      both first second = λ i. greater (first i) (second i)

      by_slot : (s : ℕ) → s < 2 → cell_at (place_of slots x s) new ≡ cell_at (place_of slots x s) old → cell_at (place_of slots x (1 - s)) new ≡ cell_at (place_of slots x (1 - s)) old
          → greater (cell_at (place_of slots x 0) new) (cell_at (place_of slots x 1) new) ≡ greater (cell_at (place_of slots x 0) old) (cell_at (place_of slots x 1) old)
      by_slot zero two here there = both here there
      by_slot (suc zero) two here there = both there here
      by_slot (suc (suc n)) two here there = absurd (omega (arith, two))

  -- one whose gate was opened has the new one
  pub opened_new : (x : ℕ) → x < p.objects → IsTrue (is_among x objects) → IsOpenAt (spare_place slots x) new → cell_of x new ≡ pairs x
  opened_new x below among is_open =
      let s = spare_in slots x in
      let two = (found x below).two in
      let back : 1 - (1 - s) ≡ s = omega (arith, two) in
      let lsn_new : open_lsn (spare_place slots x) new ≡ (pairs x).lsn = ap (λ (c : Cell). c.lsn) (open_cell (spare_place slots x) new is_open ∙ filled_still x below among) in
      let same_lsn : open_lsn (place_of slots x (1 - (1 - s))) new ≡ (pairs x).lsn = ap (λ (k : ℕ). open_lsn (place_of slots x k) new) back ∙ lsn_new in
      cell_is_held layout x new (layout_stays ∙ layout_was)
      ∙ held_in layout p x new new_slots below (1 - s) (omega arith) (omega (arith, other_lsn x below, above x below among, same_lsn))
      ∙ ap (λ (k : ℕ). cell_at (place_of slots x k) new) back
      ∙ open_cell (spare_place slots x) new is_open
      ∙ filled_still x below among

  pub old_or_new : AreOldOrNew p objects pairs old new
  old_or_new = record {
    whole = headed p (form_in old).first (length new) old new are.whole agrees (omega arith) (subst (λ (l : Layout). AreWholeBy l p new) (sym layout_was) new_slots);
    each = λ x below among. elim (by_gate x below) [
      | inl stays ↦ inl (cells_same x (spare_in slots x) (found x below).two stays (other_stays x below).cell)
      | inr opened ↦ inr (opened_new x below among opened.1)
    ];
    others = λ x below off. cells_same x (spare_in slots x) (found x below).two (slot_stays x below off).cell (other_stays x below).cell;
  }

  -- once all are open, the slots with the new LSNs are those of the file
  module _ (later : SlotsView) (held : AreHeld slots later objects pairs) (opened : AreOpened slots objects new) where
    place_now : (x s : ℕ) → place_in new x s ≡ place_of slots x s
    place_now x s = ap (λ (l : Layout). slot_place l x s) (layout_stays ∙ layout_was)

    objects_same : later.params.objects ≡ p.objects
    objects_same = ap (λ (l : Layout). l.params.objects) held.layout

    head_now : (x s : ℕ) → x < p.objects → s < 2 → head later x s ≡ open_lsn (place_of slots x s) new
    head_now x s below two = elim (cases_eq s (spare_in slots x)) [
      | inr other ↦ held.other_slots x s below two other ∙ head_is x s below two ∙ sym (ap (λ (c : Cell). c.lsn) (other_kept x s below two other).cell)
      | inl same ↦ subst (λ (k : ℕ). head later x k ≡ open_lsn (place_of slots x k) new) (sym same) (elim (cases_Bool (is_among x objects)) [
        | inl among ↦ held.heads x below among ∙ sym (ap (λ (c : Cell). c.lsn) (open_cell (spare_place slots x) new (opened x among) ∙ filled_still x below among))
        | inr off ↦ held.other_heads x (spare_in slots x) below (found x below).two off ∙ head_is x (spare_in slots x) below (found x below).two ∙ sym (ap (λ (c : Cell). c.lsn) (slot_stays x below off).cell)
      ])
    ]

    length_now : (x : ℕ) → x < p.objects → length_in later x ≡ length (cell_of x new).value
    length_now x below = elim (cases_Bool (is_among x objects)) [
      | inl among ↦ held.lengths x below among ∙ ap (λ (c : Cell). length c.value) (sym (opened_new x below among (opened x among)))
      | inr off ↦ held.other_lengths x below off ∙ are.lengths x below ∙ ap (λ (c : Cell). length c.value) (sym (old_or_new.others x below off))
    ]

    pub held_are : AreOf later new
    held_are = record {
      whole = subst (λ (l : Layout). IsObjectsFile l.params new) (sym held.layout) old_or_new.whole;
      first = ap (λ (l : Layout). l.first) held.layout ∙ are.first ∙ ap (λ (l : Layout). l.first) (sym layout_stays);
      heads = λ x s below two. head_now x s (omega (arith, below, objects_same)) two ∙ ap (λ (q : ℕ). open_lsn q new) (sym (place_now x s));
      lengths = λ x below. length_now x (omega (arith, below, objects_same));
    }
