-- A store stays as it is while bytes beside its slots are written.
use Rattle.std.proofs.Common.{◌≡◌, ◌≢◌, inl, inr, ◌<◌, ◌≤◌, ◌+◌, ◌*◌, ◌-◌, ℕ, List, [], ◌∷◌, length, take, drop, refl, sym, ◌∙◌, ap, subst, arith}
use Rattle.std.proofs.lemmas.Bool.{cases_eq, cases_lt}
use Rattle.std.proofs.lemmas.Grind.{same_number_lists}
use Rattle.disk_model.specs.Disk.{Torn}
use Rattle.oper_core.specs.Cell.{Cell}
use Rattle.formats.specs.Bytes.{byte_at, IsOpenAt}
use Rattle.formats.specs.Objects.{BeginsStore, IsInForm, IsWholeSlot, first_form, form_in, params_at, layout_in, place_in, slot_place, last_slot, lsn_at, length_at, value_at, open_lsn, cell_of}
use Rattle.formats.specs.declared.form.Form.{Form}
use Rattle.formats.specs.declared.layout.Layout.{Layout}
use Rattle.stable_objects.specs.Upgrades.Larger.{IsFirst, IsStill, HasLastHead, end_of_slots, seconded}
use Rattle.stable_objects.specs.LayoutLaws.{first_is, first_in, layout_same, params_at_same}
use Rattle.stable_objects.specs.Making.{KeepsFront}
use Rattle.stable_objects.specs.Replacing.{AgreesOutside}
use Rattle.stable_objects.specs.SlotLaws.{place_of_file}
use Rattle.stable_objects.specs.SlotsView.{SlotsView, AreOf}
use Rattle.stable_objects.proofs.Bytes.{written_long, byte_before, byte_after, byte_written}
use Rattle.stable_objects.proofs.Outside.{IsBeside, torn_agrees, byte_beside, read_same, number_stays}
use Rattle.stable_objects.proofs.Places.{room}
use Rattle.stable_objects.proofs.Cells.{AreWholeBy, whole_in, whole_cell, open_cell, closed_cell, greater, held_by, cell_is_held}
use Rattle.stable_objects.proofs.Headed.{form_kept, layout_kept}
use Rattle.stable_objects.proofs.Changed.{SlotStays}
use Rattle.stable_objects.proofs.Upgraded.Behind.{front_agrees}

-- a slot stays whose bytes, if it is open, are beside the range that changes
module _ (cap at n place : ℕ) (old new : List ℕ) (agrees : AgreesOutside at n old new) (gate : byte_at place new ≡ byte_at place old)
    (beside : IsOpenAt place old → (k m : ℕ) → 1 ≤ k → k + m ≤ 13 + length_at place old → IsBeside at n old (place + k) m) (slot : IsOpenAt place old → IsWholeSlot cap place old) where
  module _ (is_open : IsOpenAt place old) where
    is_lsn : lsn_at place new ≡ lsn_at place old
    is_lsn = number_stays at n old new agrees (place + 1) 8 (beside is_open 1 8 (omega arith) (omega arith))

    long : length_at place new ≡ length_at place old
    long = number_stays at n old new agrees (place + 9) 4 (beside is_open 9 4 (omega arith) (omega arith))

    value : value_at place new ≡ value_at place old
    value =
        ap (λ (k : ℕ). take k (drop (place + 13) new)) long
        ∙ read_same at n old new agrees (place + 13) (length_at place old) (beside is_open 13 (length_at place old) (omega arith) (omega arith))

    whole : IsWholeSlot cap place new
    whole =
        let was = slot is_open in
        record {
          some = omega (arith, was.some, is_lsn);
          is_lsn = omega (arith, was.is_lsn, is_lsn);
          short = omega (arith, was.short, long);
          within = λ some. omega (arith, was.within (omega (arith, some, long)), long, agrees.no_shorter);
        }

    cells : whole_cell place new ≡ whole_cell place old
    cells = λ i. record { lsn = is_lsn i; value = value i }

  pub slot_beside : SlotStays cap place old new
  slot_beside = record {
    gate = gate;
    cell = elim (cases_eq (byte_at place old) 1) [
      | inl is_open ↦ open_cell place new (gate ∙ is_open) ∙ cells is_open ∙ sym (open_cell place old is_open)
      | inr closed ↦ closed_cell place new (λ is_open. closed (sym gate ∙ is_open)) ∙ sym (closed_cell place old closed)
    ];
    whole = λ is_open. whole (sym gate ∙ is_open);
  }

module _ (slots : SlotsView) (old new : List ℕ) (are : AreOf slots old) (each : (y t : ℕ) → y < slots.params.objects → t < 2 → SlotStays slots.params.cap (place_in old y t) old new) where
  pub still_whole : AreWholeBy (layout_in old) slots.params new
  still_whole = record {
    each = λ y t below two. (each y t below two).whole;
    apart = λ y below first second alike.
        let one = each y 0 below (omega arith) in
        let next = each y 1 below (omega arith) in
        let lsn : (q : ℕ) → IsOpenAt q new → SlotStays slots.params.cap q old new → lsn_at q new ≡ lsn_at q old = λ q is_open stays.
        sym (ap (λ (c : Cell). c.lsn) (open_cell q new is_open)) ∙ ap (λ (c : Cell). c.lsn) stays.cell ∙ ap (λ (c : Cell). c.lsn) (open_cell q old (sym stays.gate ∙ is_open)) in
        are.whole.slots.apart y below (sym one.gate ∙ first) (sym next.gate ∙ second) (sym (lsn (place_in old y 0) first one) ∙ alike ∙ lsn (place_in old y 1) second next);
  }

  pub still_held : (x : ℕ) → x < slots.params.objects → held_by (layout_in old) x new ≡ cell_of x old
  still_held x below =
      let first = (each x 0 below (omega arith)).cell in
      let second = (each x 1 below (omega arith)).cell in
      let both : held_by (layout_in old) x new ≡ held_by (layout_in old) x old = λ i. greater (first i) (second i) in
      both ∙ sym (cell_is_held (layout_in old) x old refl)

  module _ (begins : BeginsStore new) (form : form_in new ≡ form_in old) (layout : layout_in new ≡ layout_in old) (longer : length old ≤ length new) where
    still_cells : (x : ℕ) → x < slots.params.objects → cell_of x new ≡ cell_of x old
    still_cells x below = cell_is_held (layout_in old) x new layout ∙ still_held x below

    pub still : IsStill slots old new
    still = record {
      are = record {
        whole = record {
          begins = begins;
          params = ap (λ (l : Layout). l.params) layout ∙ are.whole.params;
          in_range = are.whole.in_range;
          in_form = subst (λ (f : Form). IsInForm f slots.params) (sym form) are.whole.in_form;
          whole = subst (λ (l : Layout). last_slot l < length new) (sym layout) (omega (arith, are.whole.whole, longer));
          slots = whole_in (layout_in old) slots.params new layout still_whole;
        };
        first = are.first ∙ ap (λ (f : Form). f.first) (sym form);
        heads = λ x s below two.
            are.heads x s below two
            ∙ sym (ap (λ (c : Cell). c.lsn) (each x s below two).cell)
            ∙ ap (λ (l : Layout). open_lsn (slot_place l x s) new) (sym layout);
        lengths = λ x below. are.lengths x below ∙ ap (λ (c : Cell). length c.value) (sym (still_cells x below));
      };
      cells = still_cells;
    }

-- a store of version 1
module _ (slots : SlotsView) (old new : List ℕ) (are : AreOf slots old) (first : IsFirst slots) where
  was : form_in old ≡ first_form
  was = first_is old (sym are.first ∙ first)

  reach : 32 ≤ length old
  reach = omega (arith, are.whole.whole, ap (λ (f : Form). f.first) was)

  -- behind whose slots something is written
  module _ (head : HasLastHead slots old) (keeps : KeepsFront (end_of_slots slots) old new) where
    agrees : AgreesOutside (end_of_slots slots) (length new) old new
    agrees = front_agrees (end_of_slots slots) old new keeps

    before : (form_in old).first ≤ end_of_slots slots
    before = omega (arith, ap (λ (f : Form). f.first) was)

    in_front : (y t : ℕ) → y < slots.params.objects → t < 2 → place_in old y t + (13 + slots.params.cap) ≤ end_of_slots slots
    in_front y t below two =
        let fits = room (2 * y + t) (2 * slots.params.objects) (13 + slots.params.cap) (omega (arith, below, two)) in
        omega (arith, fits, place_of_file slots old y t are, first)

    last_place : slot_place (record { params = slots.params; first = slots.first }) (slots.params.objects - 1) 1 < length old
    last_place = subst (λ (l : Layout). last_slot l < length old) (λ i. record { params = are.whole.params i; first = sym are.first i }) are.whole.whole

    within : (y t : ℕ) → y < slots.params.objects → t < 2 → place_in old y t < length old
    within y t below two = elim (cases_eq (2 * y + t) (2 * (slots.params.objects - 1) + 1)) [
      | inl here ↦
          let same = ap (λ (k : ℕ). slots.first + k * (13 + slots.params.cap)) here in
          omega (arith, same, place_of_file slots old y t are, last_place)
      | inr other ↦
          let fits = room (2 * y + t) (2 * (slots.params.objects - 1) + 1) (13 + slots.params.cap) (omega (arith, below, two, other)) in
          omega (arith, fits, place_of_file slots old y t are, last_place)
    ]

    has_head : (y t : ℕ) → y < slots.params.objects → t < 2 → IsOpenAt (place_in old y t) old → place_in old y t + 13 ≤ length old
    has_head y t below two is_open = elim (cases_eq (2 * y + t) (2 * (slots.params.objects - 1) + 1)) [
      | inl here ↦
          let second : t ≡ 1 = omega (arith, here, two, below) in
          subst (λ (s : ℕ). place_in old y s + 13 ≤ length old) (sym second) (head y (omega (arith, here, two, below)) (subst (λ (s : ℕ). IsOpenAt (place_in old y s) old) second is_open))
      | inr other ↦
          let fits = room (2 * y + t) (2 * (slots.params.objects - 1) + 1) (13 + slots.params.cap) (omega (arith, below, two, other)) in
          omega (arith, fits, place_of_file slots old y t are, last_place)
    ]

    each : (y t : ℕ) → y < slots.params.objects → t < 2 → SlotStays slots.params.cap (place_in old y t) old new
    each y t below two =
        let place = place_in old y t in
        let slot = are.whole.slots.each y t below two in
        slot_beside slots.params.cap (end_of_slots slots) (length new) place old new agrees
        (agrees.before place (within y t below two) (omega (arith, in_front y t below two)))
        (λ is_open k m some fits.
        let there : place + 13 + length_at place old ≤ length old = elim (cases_eq (length_at place old) 0) [
          | inl none ↦ omega (arith, none, has_head y t below two is_open)
          | inr long ↦ (slot is_open).within (omega (arith, long))
        ] in
        inl (omega (arith, fits, in_front y t below two, (slot is_open).short), omega (arith, fits, there)))
        slot

    pub still_in_front : IsStill slots old new
    still_in_front = still slots old new are each
        (read_same (end_of_slots slots) (length new) old new agrees 0 8 (inl (omega arith, omega (arith, reach))) ∙ are.whole.begins)
        (form_kept slots.params (end_of_slots slots) (length new) old new are.whole agrees before) (layout_kept slots.params (end_of_slots slots) (length new) old new are.whole agrees before) agrees.no_shorter

    -- and the last head is there still
    pub still_headed : HasLastHead slots new
    still_headed x last is_open =
        let same : place_in new x 1 ≡ place_in old x 1 = ap (λ (l : Layout). slot_place l x 1) (layout_kept slots.params (end_of_slots slots) (length new) old new are.whole agrees before) in
        let stays = each x 1 (omega (arith, last)) (omega arith) in
        let was_open : IsOpenAt (place_in old x 1) old = sym stays.gate ∙ ap (λ (q : ℕ). byte_at q new) (sym same) ∙ is_open in
        omega (arith, same, head x last was_open, agrees.no_shorter)

  -- whose version is written
  module _ (torn : Torn 8 1 old new) where
    beside_version : AgreesOutside 8 1 old new
    beside_version = torn_agrees 8 1 old new torn

    pub still_first : byte_at 8 new ≢ 50 → IsStill slots old new
    still_first other =
        let form_new : form_in new ≡ first_form = first_in new other in
        let form : form_in new ≡ form_in old = form_new ∙ sym was in
        let numbers : params_at 9 new ≡ params_at 9 old = params_at_same 9 9 new old (λ k place within. number_stays 8 1 old new beside_version (9 + place) k (inr (omega arith))) in
        let layout : layout_in new ≡ layout_in old = layout_same new old form (ap (λ (f : Form). params_at f.numbers new) form_new ∙ numbers ∙ ap (λ (f : Form). params_at f.numbers old) (sym form_new)) in
        let behind : (y t : ℕ) → 9 ≤ place_in old y t = λ y t. omega (arith, ap (λ (f : Form). f.first) was) in
        still slots old new are
        (λ y t below two. slot_beside slots.params.cap 8 1 (place_in old y t) old new beside_version
        (byte_beside 8 1 old new beside_version (place_in old y t) (inr (omega (arith, behind y t))))
        (λ is_open k m some fits. inr (omega (arith, behind y t))) (are.whole.slots.each y t below two))
        (read_same 8 1 old new beside_version 0 8 (inl (omega arith, omega (arith, reach))) ∙ are.whole.begins) form layout beside_version.no_shorter

    pub now_second : byte_at 8 new ≡ 50 → new ≡ seconded old
    now_second is =
        let long : length new ≡ length (seconded old) = omega (arith, torn.no_longer, torn.no_shorter, reach, written_long 8 (50 ∷ []) old) in
        same_number_lists new (seconded old) long (λ j less. elim (cases_lt j 8) [
          | inl front ↦ beside_version.before j (omega (arith, front, reach)) front ∙ sym (byte_before 8 (50 ∷ []) old j front)
          | inr le ↦ elim (cases_eq j 8) [
            | inl here ↦ subst (λ (k : ℕ). byte_at k new ≡ byte_at k (seconded old)) (sym here) (is ∙ sym (byte_written 8 50 old))
            | inr other ↦
                let after : 9 ≤ j = omega (arith, le, other) in
                byte_beside 8 1 old new beside_version j (inr after) ∙ sym (byte_after 8 (50 ∷ []) old j after)
          ]
        ])
