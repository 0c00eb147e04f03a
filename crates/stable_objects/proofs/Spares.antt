-- The slots that hold no object change, and each object has the pair that it had.
use Rattle.std.proofs.Common.{◌≡◌, ◌≢◌, ◌⊎◌, inl, inr, ◌<◌, ◌≤◌, ◌+◌, ◌-◌, ◌*◌, ℕ, List, length, get_or, take, drop, refl, sym, ◌∙◌, ap, subst, arith, length-take, length-drop}
use Rattle.std.proofs.lemmas.Bool.{cases_eq}
use Rattle.std.proofs.lemmas.Grind.{same_number_lists}
use Rattle.std.proofs.lemmas.List.{get_or-drop, get_or-take}
use Rattle.oper_core.specs.Cell.{Cell}
use Rattle.formats.specs.Bytes.{byte_at, number_at, IsOpenAt, IsClosedAt}
use Rattle.formats.specs.Objects.{IsWholeSlot, form_in, layout_in, last_slot, slot_place, lsn_at, length_at, value_at, open_lsn, cell_of}
use Rattle.formats.specs.declared.layout.Layout.{Layout}
use Rattle.formats.specs.declared.params.Params.{Params}
use Rattle.stable_objects.specs.Making.{KeepsFront}
use Rattle.stable_objects.specs.Replacing.{AgreesOutside, spare_in}
use Rattle.stable_objects.specs.SlotLaws.{closed_tells, layout_of_file, place_of_file}
use Rattle.stable_objects.specs.SlotsView.{SlotsView, AreOf, head, layout_of, place_of}
use Rattle.stable_objects.specs.Spares.{IsSpareByte, IsSpareGate, IsUnseen, KeepsBut, spare_lsn, spare_place}
use Rattle.stable_objects.proofs.Upgraded.Behind.{front_agrees}
use Rattle.stable_objects.proofs.Bytes.{number_same}
use Rattle.stable_objects.proofs.Cells.{AreWholeBy, whole_by, whole_cell, open_cell, closed_cell, cell_is_held, held_in, closed_where_none, open_where_some, less_where_open}
use Rattle.stable_objects.proofs.Changed.{IsLower, SlotStays, apart_here, closed_lower}
use Rattle.stable_objects.proofs.Headed.{headed, layout_kept}
use Rattle.stable_objects.proofs.Places.{places_apart}
use Rattle.stable_objects.proofs.Replaced.{IsSpare, spare}

-- a slot whose bytes behind its gate are the same
module _ (cap place : ℕ) (old new : List ℕ) (longer : length old ≤ length new) (same : (j : ℕ) → 1 ≤ j → j < 13 + cap → byte_at (place + j) new ≡ byte_at (place + j) old) where
  byte_behind : (p j : ℕ) → 1 ≤ p → p + j < 13 + cap → get_or (drop (place + p) new) j 0 ≡ get_or (drop (place + p) old) j 0
  byte_behind p j some less =
      let spot : place + p + j ≡ place + (p + j) = omega arith in
      get_or-drop (place + p) new j 0
      ∙ ap (λ (k : ℕ). get_or new k 0) spot
      ∙ same (p + j) (omega (arith, some)) less
      ∙ ap (λ (k : ℕ). get_or old k 0) (sym spot)
      ∙ sym (get_or-drop (place + p) old j 0)

  number_behind : (k p : ℕ) → 1 ≤ p → p + k ≤ 13 + cap → number_at k (place + p) new ≡ number_at k (place + p) old
  number_behind k p some fits = number_same 0 k (drop (place + p) new) (drop (place + p) old) (λ j low high. byte_behind p j some (omega (arith, fits, high)))

  pub lsn_kept : lsn_at place new ≡ lsn_at place old
  lsn_kept = number_behind 8 1 (omega arith) (omega arith)

  long_kept : length_at place new ≡ length_at place old
  long_kept = number_behind 4 9 (omega arith) (omega arith)

  module _ (slot : IsWholeSlot cap place old) where
    long_enough : (n : ℕ) → n ≡ length_at place old → length (take n (drop (place + 13) new)) ≡ length (take n (drop (place + 13) old))
    long_enough n is = elim (cases_eq n 0) [
      | inl none ↦ omega (arith, none, length-take n (drop (place + 13) new), length-take n (drop (place + 13) old))
      | inr some ↦
          let within = slot.within (omega (arith, some, is)) in
          omega (arith, is, within, longer, length-take n (drop (place + 13) new), length-take n (drop (place + 13) old), length-drop (place + 13) new, length-drop (place + 13) old)
    ]

    value_kept : value_at place new ≡ value_at place old
    value_kept =
        let n = length_at place old in
        ap (λ (k : ℕ). take k (drop (place + 13) new)) long_kept
        ∙ same_number_lists (take n (drop (place + 13) new)) (take n (drop (place + 13) old)) (long_enough n refl) (λ j less.
        let below : j < n = omega (arith, less, length-take n (drop (place + 13) new)) in
        get_or-take n (drop (place + 13) new) j 0 below ∙ byte_behind 13 j (omega arith) (omega (arith, below, slot.short)) ∙ sym (get_or-take n (drop (place + 13) old) j 0 below))

    pub whole_kept : IsWholeSlot cap place new
    whole_kept = record {
      some = omega (arith, slot.some, lsn_kept);
      is_lsn = omega (arith, slot.is_lsn, lsn_kept);
      short = omega (arith, slot.short, long_kept);
      within = λ some. omega (arith, slot.within (omega (arith, some, long_kept)), long_kept, longer);
    }

    pub cells_kept : whole_cell place new ≡ whole_cell place old
    cells_kept = λ i. record { lsn = lsn_kept i; value = value_kept i }

  -- and whose gate is the same
  pub slot_kept : byte_at place new ≡ byte_at place old → (IsOpenAt place old → IsWholeSlot cap place old) → SlotStays cap place old new
  slot_kept gate slot = record {
    gate = gate;
    cell = elim (cases_eq (byte_at place old) 1) [
      | inl is_open ↦ open_cell place new (gate ∙ is_open) ∙ cells_kept (slot is_open) ∙ sym (open_cell place old is_open)
      | inr closed ↦ closed_cell place new (λ is_open. closed (sym gate ∙ is_open)) ∙ sym (closed_cell place old closed)
    ];
    whole = λ is_open. whole_kept (slot (sym gate ∙ is_open));
  }

-- a byte of one slot is none of a spare slot that is another
module _ (slots : SlotsView) (y t j : ℕ) (less : j < 13 + slots.params.cap) (x : ℕ) (other : 2 * y + t ≢ 2 * x + spare_in slots x) where
  pub no_gate : place_of slots y t + j ≡ spare_place slots x → ⊥
  no_gate here = elim (places_apart (layout_of slots) x (spare_in slots x) y t other) [
    | inl before ↦ absurd (omega (arith, before, here, less))
    | inr behind ↦ absurd (omega (arith, behind, here))
  ]

  pub no_byte : spare_place slots x < place_of slots y t + j → place_of slots y t + j < spare_place slots x + (13 + slots.params.cap) → ⊥
  no_byte low high = elim (places_apart (layout_of slots) x (spare_in slots x) y t other) [
    | inl before ↦ absurd (omega (arith, before, low, less))
    | inr behind ↦ absurd (omega (arith, behind, high))
  ]

-- no byte before the slots is free
before_slots : (slots : SlotsView) (j : ℕ) → j < slots.first → IsSpareGate slots j ⊎ IsSpareByte slots j → ⊥
before_slots slots j less free = elim free [
  | inl gate ↦ absurd (omega (arith, gate.here, less))
  | inr byte ↦ absurd (omega (arith, byte.behind, less))
]

module _ (slots : SlotsView) (free : ℕ → Type 0) (spares : (j : ℕ) → free j → IsSpareGate slots j ⊎ IsSpareByte slots j) (old new : List ℕ) (are : AreOf slots old) (keeps : KeepsBut (layout_of slots) free old new) where
  abbrev p : Params
  p = slots.params

  abbrev layout : Layout
  layout = layout_of slots

  layout_was : layout_in old ≡ layout
  layout_was = sym (layout_of_file slots old are)

  byte_kept : (j : ℕ) → (IsSpareGate slots j ⊎ IsSpareByte slots j → ⊥) → byte_at j new ≡ byte_at j old
  byte_kept j none = keeps.same (subst (λ (l : Layout). last_slot l < length old) layout_was are.whole.whole) j (λ is_free. none (spares j is_free))

  front : KeepsFront (form_in old).first old new
  front = (keeps.no_shorter, λ j within less. byte_kept j (before_slots slots j (omega (arith, less, are.first))))

  agrees : AgreesOutside (form_in old).first (length new) old new
  agrees = front_agrees (form_in old).first old new front

  pub layout_stays : layout_in new ≡ layout_in old
  layout_stays = layout_kept p (form_in old).first (length new) old new are.whole agrees (omega arith)

  old_slots : AreWholeBy layout p old
  old_slots = subst (λ (l : Layout). AreWholeBy l p old) layout_was (whole_by p old are.whole.slots)

  pub head_is : (x s : ℕ) → x < p.objects → s < 2 → head slots x s ≡ open_lsn (place_of slots x s) old
  head_is x s below two = are.heads x s below two ∙ ap (λ (q : ℕ). open_lsn q old) (sym (place_of_file slots old x s are))

  -- a slot that is no spare one
  other_kept : (y t : ℕ) → y < p.objects → t < 2 → t ≢ spare_in slots y → SlotStays p.cap (place_of slots y t) old new
  other_kept y t below two other =
      let apart : (x : ℕ) → 2 * y + t ≢ 2 * x + spare_in slots x = λ x same.
      let found = (spare slots x).two in
      let here : y ≡ x = omega (arith, same, two, found) in
      other (omega (arith, same, here, ap (λ (k : ℕ). spare_in slots k) here)) in
      let kept : (j : ℕ) → j < 13 + p.cap → byte_at (place_of slots y t + j) new ≡ byte_at (place_of slots y t + j) old =
      λ j less. byte_kept (place_of slots y t + j) (λ free. elim free [
        | inl gate ↦ no_gate slots y t j less gate.object (apart gate.object) gate.here
        | inr byte ↦ no_byte slots y t j less byte.object (apart byte.object) byte.behind byte.within
      ]) in
      let spot : place_of slots y t + 0 ≡ place_of slots y t = omega arith in
      slot_kept p.cap (place_of slots y t) old new keeps.no_shorter (λ j some less. kept j less)
      (ap (λ (k : ℕ). byte_at k new) (sym spot) ∙ kept 0 (omega arith) ∙ ap (λ (k : ℕ). byte_at k old) spot) (old_slots.each y t below two)

  module _ (x : ℕ) (below : x < p.objects) where
    abbrev s : ℕ
    s = spare_in slots x

    abbrev place : ℕ
    place = spare_place slots x

    found : IsSpare slots x s
    found = spare slots x

    abbrev other_lsn : ℕ
    other_lsn = open_lsn (place_of slots x (1 - s)) old

    pub apart_from : (z : ℕ) → z ≢ x → 2 * x + s ≢ 2 * z + spare_in slots z
    apart_from z differs same = let there = (spare slots z).two in let here = found.two in differs (omega (arith, same, there, here))

    -- the gate of a spare slot that is closed stays
    pub gate_kept : spare_lsn slots x ≡ 0 → byte_at place new ≡ byte_at place old
    gate_kept none = byte_kept place (λ free. elim free [
      | inl gate ↦ elim (cases_eq gate.object x) [
        | inl here ↦ gate.is_open (ap (λ (k : ℕ). spare_lsn slots k) here ∙ none)
        | inr differs ↦ no_gate slots x s 0 (omega arith) gate.object (apart_from gate.object differs) (omega (arith, gate.here))
      ]
      | inr byte ↦ elim (cases_eq byte.object x) [
        | inl here ↦ absurd (omega (arith, byte.behind, ap (λ (k : ℕ). spare_place slots k) here))
        | inr differs ↦ no_byte slots x s 0 (omega arith) byte.object (apart_from byte.object differs) (omega (arith, byte.behind)) (omega (arith, byte.within))
      ]
    ])

    -- and so does what an open one has behind its gate
    inside_kept : spare_lsn slots x ≢ 0 → (j : ℕ) → 1 ≤ j → j < 13 + p.cap → byte_at (place + j) new ≡ byte_at (place + j) old
    inside_kept some j low high = byte_kept (place + j) (λ free. elim free [
      | inl gate ↦ elim (cases_eq gate.object x) [
        | inl here ↦ absurd (omega (arith, gate.here, ap (λ (k : ℕ). spare_place slots k) here, low))
        | inr differs ↦ no_gate slots x s j high gate.object (apart_from gate.object differs) gate.here
      ]
      | inr byte ↦ elim (cases_eq byte.object x) [
        | inl here ↦ some (sym (ap (λ (k : ℕ). spare_lsn slots k) here) ∙ byte.closed)
        | inr differs ↦ no_byte slots x s j high byte.object (apart_from byte.object differs) byte.behind byte.within
      ]
    ])

    le : open_lsn place old ≤ other_lsn
    le = omega (arith, head_is x s below found.two, head_is x (1 - s) below (omega arith), found.lower)

    pub closed_was : spare_lsn slots x ≡ 0 → IsClosedAt place old
    closed_was none = closed_where_none p.cap place old (old_slots.each x s below found.two) (sym (head_is x s below found.two) ∙ none)

    lower : IsLower p.cap place other_lsn new
    lower = elim (cases_eq (spare_lsn slots x) 0) [
      | inl none ↦ closed_lower p.cap place other_lsn new (λ is_open. closed_was none (sym (gate_kept none) ∙ is_open))
      | inr some ↦
          let there : open_lsn place old ≢ 0 = λ none. some (head_is x s below found.two ∙ none) in
          let is_open = open_where_some place old there in
          let whole = old_slots.each x s below found.two is_open in
          let less = less_where_open layout p x old old_slots below s found.two le there in
          let lsn = ap (λ (c : Cell). c.lsn) (open_cell place old is_open) in
          let is_lsn = lsn_kept p.cap place old new keeps.no_shorter (inside_kept some) in
          record { slot = λ now_open. whole_kept p.cap place old new keeps.no_shorter (inside_kept some) whole; less = λ now_open. omega (arith, is_lsn, lsn, less) }
    ]

    other_stays : SlotStays p.cap (place_of slots x (1 - s)) old new
    other_stays = other_kept x (1 - s) below (omega arith) (λ same. let here = found.two in omega (arith, same, here))

    no_greater : open_lsn place new ≤ open_lsn (place_of slots x (1 - s)) new
    no_greater = elim (cases_eq (byte_at place new) 1) [
      | inl is_open ↦
          let less = lower.less is_open in
          let lsn = ap (λ (c : Cell). c.lsn) (open_cell place new is_open) in
          omega (arith, less, lsn, ap (λ (c : Cell). c.lsn) other_stays.cell)
      | inr closed ↦ let none = ap (λ (c : Cell). c.lsn) (closed_cell place new closed) in omega (arith, none)
    ]

  new_slots : AreWholeBy layout p new
  new_slots = record {
    each = λ y t below two. elim (cases_eq t (spare_in slots y)) [
      | inl same ↦ subst (λ (k : ℕ). IsOpenAt (place_of slots y k) new → IsWholeSlot p.cap (place_of slots y k) new) (sym same) (lower y below).slot
      | inr other ↦ (other_kept y t below two other).whole
    ];
    apart = λ y below. apart_here layout y old new (spare_in slots y) (found y below).two (other_stays y below).cell (λ is_open same. let less = (lower y below).less is_open in omega (arith, less, same));
  }

  pub cells_stay : (x : ℕ) → x < p.objects → cell_of x new ≡ cell_of x old
  cells_stay x below =
      let s = spare_in slots x in
      let two = (found x below).two in
      cell_is_held layout x new (layout_stays ∙ layout_was)
      ∙ held_in layout p x new new_slots below s two (no_greater x below)
      ∙ (other_stays x below).cell
      ∙ sym (held_in layout p x old old_slots below s two (le x below))
      ∙ sym (cell_is_held layout x old layout_was)

  pub unseen : IsUnseen p old new
  unseen = record {
    whole = headed p (form_in old).first (length new) old new are.whole agrees (omega arith) (subst (λ (l : Layout). AreWholeBy l p new) (sym layout_was) new_slots);
    cells = cells_stay;
  }

  -- where all gates stay, the slots are still those of the file
  module _ (gates : (j : ℕ) → free j → IsSpareByte slots j) where
    open_kept : (x : ℕ) → x < p.objects → spare_lsn slots x ≢ 0 → SlotStays p.cap (spare_place slots x) old new
    open_kept x below some =
        let reach = subst (λ (l : Layout). last_slot l < length old) layout_was are.whole.whole in
        let gate = keeps.same reach (spare_place slots x) (λ is_free.
        let byte = gates (spare_place slots x) is_free in
        elim (cases_eq byte.object x) [
          | inl here ↦ absurd (omega (arith, byte.behind, ap (λ (k : ℕ). spare_place slots k) here))
          | inr differs ↦ no_byte slots x (spare_in slots x) 0 (omega arith) byte.object (apart_from x below byte.object differs) (omega (arith, byte.behind)) (omega (arith, byte.within))
        ]) in
        slot_kept p.cap (spare_place slots x) old new keeps.no_shorter (inside_kept x below some) gate (old_slots.each x (spare_in slots x) below (found x below).two)

    head_stays : (x s : ℕ) → x < p.objects → s < 2 → head slots x s ≡ open_lsn (place_of slots x s) new
    head_stays x s below two = elim (cases_eq s (spare_in slots x)) [
      | inr other ↦ head_is x s below two ∙ sym (ap (λ (c : Cell). c.lsn) (other_kept x s below two other).cell)
      | inl same ↦ subst (λ (k : ℕ). head slots x k ≡ open_lsn (place_of slots x k) new) (sym same) (elim (cases_eq (spare_lsn slots x) 0) [
        | inl none ↦ none ∙ sym (closed_tells (spare_place slots x) new (λ is_open. closed_was x below none (sym (gate_kept x below none) ∙ is_open)))
        | inr some ↦ head_is x (spare_in slots x) below (found x below).two ∙ sym (ap (λ (c : Cell). c.lsn) (open_kept x below some).cell)
      ])
    ]

    pub still_are : AreOf slots new
    still_are = record {
      whole = unseen.whole;
      first = are.first ∙ ap (λ (l : Layout). l.first) (sym layout_stays);
      heads = λ x s below two. head_stays x s below two ∙ ap (λ (l : Layout). open_lsn (slot_place l x s) new) (sym (layout_stays ∙ layout_was));
      lengths = λ x below. are.lengths x below ∙ ap (λ (c : Cell). length c.value) (sym (cells_stay x below));
    }
