-- A spare slot is closed, or it is filled behind its closed gate.
use Rattle.std.proofs.Common.{◌≡◌, ◌≢◌, inl, inr, ◌<◌, ◌≤◌, ◌+◌, ◌-◌, ◌*◌, ℕ, Bool, true, false, if◌then◌else◌, nat_lt, List, [], ◌∷◌, length, set, get_or, refl, sym, ◌∙◌, ap, subst, arith}
use Rattle.std.proofs.lemmas.Bool.{cases_eq, cases_lt, ltb-true, ltb-false, lt-ltb, le-ltb}
use Rattle.std.proofs.lemmas.Grind.{get_or-set_at}
use Rattle.std.proofs.lemmas.List.{get_or-set_other, get_or_default}
use Rattle.disk_model.specs.Disk.{Disk, Files, HoldsAt, In, IsDisk, Runs, Same, Stays, Torn}
use Rattle.disk_model.specs.Moments.{runs_none, runs_wider}
use Rattle.disk_model.specs.declared.machine.FileNo.TheVariants.{Objects}
use Rattle.oper_core.specs.Cell.{Cell}
use Rattle.formats.specs.Bytes.{byte_at, IsClosedAt}
use Rattle.formats.specs.Objects.{layout_in, place_in, slot_place, open_lsn, cell_of}
use Rattle.formats.specs.declared.layout.Layout.{Layout}
use Rattle.formats.specs.declared.params.Params.{Params}
use Rattle.stable_objects.specs.Replacing.{AgreesOutside, spare_in}
use Rattle.stable_objects.specs.SlotGates.{slot_gate}
use Rattle.stable_objects.specs.SlotLaws.{closed_tells, place_of_file}
use Rattle.stable_objects.specs.SlotsView.{SlotsView, AreHeads, AreOf, head, lsn_in, layout_of}
use Rattle.stable_objects.specs.SpareLaws.{keeps_none}
use Rattle.stable_objects.specs.Spares.{IsClosing, IsSpareByte, KeepsBut, KeepsButGates, KeepsButSpares, KeepsFilledBut, spare_lsn, spare_place}
use Rattle.stable_objects.proofs.Bytes.{byte_written}
use Rattle.stable_objects.proofs.Changed.{closed_lower, each_stays, kept, stands}
use Rattle.stable_objects.proofs.Outside.{agrees_wider, byte_beside, filled_beside, held_agrees, torn_agrees}
use Rattle.stable_objects.proofs.Places.{place_within, places_apart}
use Rattle.stable_objects.proofs.Put.{look_first}
use Rattle.stable_objects.proofs.Replaced.{IsSpare, slot_room, spare}

-- no call is made
pub spares_none : (slots : SlotsView) (free : ℕ → Type 0) (d : Disk) → IsDisk d → Runs (In Objects (KeepsBut (layout_of slots) free)) Same d d
spares_none slots free d lawful = runs_none d (In Objects (KeepsBut (layout_of slots) free)) (λ files. record { changed = keeps_none (layout_of slots) free (files Objects); others = λ other is_other. refl }) lawful

module _ (slots : SlotsView) (x at : ℕ) (below : x < slots.params.objects) where
  -- a gate alone is written, that was open
  torn_gate : spare_lsn slots x ≢ 0 → at ≡ spare_place slots x → (old new : List ℕ) → Torn at 1 old new → KeepsButGates slots old new
  torn_gate some here old new torn = record {
    no_shorter = torn.no_shorter;
    same = λ reach j none.
        let within = place_within (layout_of slots) old x (spare_in slots x) reach below (spare slots x).two in
        byte_beside at 1 old new (torn_agrees at 1 old new torn) j (elim (cases_lt j at) [
          | inl less ↦ inl (less, omega (arith, less, here, within))
          | inr le ↦ elim (cases_eq j at) [
            | inl same ↦ absurd (none (record { object = x; below = below; is_open = some; here = same ∙ here }))
            | inr other ↦ inr (omega (arith, le, other))
          ]
        ]);
  }

  pub gate_run : spare_lsn slots x ≢ 0 → at ≡ spare_place slots x → (old new : Disk) → Runs (In Objects (Torn at 1)) Same old new → Runs (In Objects (KeepsButGates slots)) Same old new
  gate_run some here old new run = runs_wider old new (In Objects (Torn at 1)) (In Objects (KeepsButGates slots)) (λ a b is. record { changed = torn_gate some here (a Objects) (b Objects) is.changed; others = is.others }) run

  -- all behind a closed gate is written
  torn_spare : spare_lsn slots x ≡ 0 → at ≡ spare_place slots x → (n : ℕ) → n ≤ slots.params.cap → (old new : List ℕ) → Torn (at + 1) (12 + n) old new → KeepsButSpares slots old new
  torn_spare closed here n short old new torn = record {
    no_shorter = torn.no_shorter;
    same = λ reach j none.
        let within = place_within (layout_of slots) old x (spare_in slots x) reach below (spare slots x).two in
        byte_beside (at + 1) (12 + n) old new (torn_agrees (at + 1) (12 + n) old new torn) j (elim (cases_lt j (at + 1)) [
          | inl less ↦ inl (less, omega (arith, less, here, within))
          | inr le ↦ elim (cases_lt j (at + (13 + slots.params.cap))) [
            | inl inside ↦ absurd (none (record { object = x; below = below; closed = closed; behind = omega (arith, le, here); within = omega (arith, inside, here) }))
            | inr after ↦ inr (omega (arith, after, short))
          ]
        ]);
  }

  pub spare_run : spare_lsn slots x ≡ 0 → at ≡ spare_place slots x → (n : ℕ) → n ≤ slots.params.cap → (old new : Disk) → Runs (In Objects (Torn (at + 1) (12 + n))) Same old new → Runs (In Objects (KeepsButSpares slots)) Same old new
  spare_run closed here n short old new run =
      runs_wider old new (In Objects (Torn (at + 1) (12 + n))) (In Objects (KeepsButSpares slots)) (λ a b is. record { changed = torn_spare closed here n short (a Objects) (b Objects) is.changed; others = is.others }) run

  -- what other slots are filled with stays
  pub others_filled : at ≡ spare_place slots x → (n : ℕ) → n ≤ slots.params.cap → (old new : List ℕ) → Torn (at + 1) (12 + n) old new → KeepsFilledBut slots x old new
  others_filled here n short old new torn y lsn value there differs fits filled =
      let one = (spare slots x).two in
      let two = (spare slots y).two in
      let apart : 2 * y + spare_in slots y ≢ 2 * x + spare_in slots x = λ same. differs (omega (arith, same, one, two)) in
      filled_beside (at + 1) (12 + n) (spare_place slots y) lsn value old new
      (elim (places_apart (layout_of slots) x (spare_in slots x) y (spare_in slots y) apart) [ inl before ↦ inl (omega (arith, before, fits, here)) | inr behind ↦ inr (omega (arith, behind, short, here)) ])
      (torn_agrees (at + 1) (12 + n) old new torn) filled

-- two LSNs that are one are that of the object
lsn_of_both : (slots : SlotsView) (x n : ℕ) → head slots x 0 ≡ n → head slots x 1 ≡ n → lsn_in slots x ≡ n
lsn_of_both slots x n first second = elim (nat_lt (head slots x 0) (head slots x 1)) as (λ b. head slots x (if b then 1 else 0) ≡ n) [ true ↦ second | false ↦ first ]

-- the smaller one is taken away
module _ (before after : SlotsView) (x : ℕ) where
  abbrev IsAsBefore : Type 0
  IsAsBefore = (lsn_in after x ≡ lsn_in before x) × (spare_in after x ≡ spare_in before x)

  second_closed : nat_lt (head before x 1) (head before x 0) ≡ true → head after x 0 ≡ head before x 0 → head after x 1 ≡ 0 → IsAsBefore
  second_closed less_is first second =
      let less = ltb-true (head before x 1) (head before x 0) less_is in
      let was = le-ltb (head before x 0) (head before x 1) (omega (arith, less)) in
      let is = le-ltb (head after x 0) (head after x 1) (omega (arith, second)) in
      let still = lt-ltb (head after x 1) (head after x 0) (omega (arith, first, second, less)) in (
        ap (λ (b : Bool). head after x (if b then 1 else 0)) is ∙ first ∙ sym (ap (λ (b : Bool). head before x (if b then 1 else 0)) was),
        ap (λ (b : Bool). if b then 1 else 0) still ∙ sym (ap (λ (b : Bool). if b then 1 else 0) less_is),
      )

  first_closed : nat_lt (head before x 1) (head before x 0) ≡ false → head after x 0 ≡ 0 → head after x 1 ≡ head before x 1 → IsAsBefore
  first_closed le_is first second =
      let le = ltb-false (head before x 1) (head before x 0) le_is in
      let still = le-ltb (head after x 1) (head after x 0) (omega (arith, first)) in
      let now : lsn_in after x ≡ head before x 1 = elim (cases_eq (head before x 1) 0) [
        | inl none ↦ lsn_of_both after x 0 first (second ∙ none) ∙ sym none
        | inr some ↦ ap (λ (b : Bool). head after x (if b then 1 else 0)) (lt-ltb (head after x 0) (head after x 1) (omega (arith, first, second, some))) ∙ second
      ] in
      let was : lsn_in before x ≡ head before x 1 = elim (cases_eq (head before x 0) (head before x 1)) [
        | inl same ↦ lsn_of_both before x (head before x 1) same refl
        | inr other ↦ ap (λ (b : Bool). head before x (if b then 1 else 0)) (lt-ltb (head before x 0) (head before x 1) (omega (arith, le, other)))
      ] in
      (now ∙ sym was, ap (λ (b : Bool). if b then 1 else 0) still ∙ sym (ap (λ (b : Bool). if b then 1 else 0) le_is))

  by_which : (b : Bool) → nat_lt (head before x 1) (head before x 0) ≡ b → head after x (if b then 1 else 0) ≡ 0 → head after x (1 - (if b then 1 else 0)) ≡ head before x (1 - (if b then 1 else 0)) → IsAsBefore
  by_which true is here there = second_closed is there here
  by_which false is here there = first_closed is here there

  pub as_before : head after x (spare_in before x) ≡ 0 → head after x (1 - spare_in before x) ≡ head before x (1 - spare_in before x) → IsAsBefore
  as_before here there = by_which (nat_lt (head before x 1) (head before x 0)) refl here there

-- the spare slot of an object is closed
module _ (slots : SlotsView) (x slot : ℕ) (below : x < slots.params.objects) (slot_is : slot ≡ 2 * x + spare_in slots x) (room : slot < length slots.heads) where
  abbrev s : ℕ
  s = spare_in slots x

  abbrev pub later : SlotsView
  later = record { params = slots.params; first = slots.first; heads = set slots.heads slot 0; lengths = slots.lengths }

  found : IsSpare slots x s
  found = spare slots x

  here : head later x s ≡ 0
  here = get_or-set_at slots.heads slot (2 * x + s) 0 0 (sym slot_is) room

  elsewhere : (y t : ℕ) → 2 * y + t ≢ 2 * x + s → head later y t ≡ head slots y t
  elsewhere y t other = get_or-set_other slots.heads slot (2 * y + t) 0 0 (λ e. other (e ∙ slot_is))

  there : head later x (1 - s) ≡ head slots x (1 - s)
  there = elsewhere x (1 - s) (λ e. let two = found.two in absurd (omega (arith, e, two)))

  same_object : IsAsBefore slots later x
  same_object = as_before slots later x here there

  other_object : (y : ℕ) → y ≢ x → (t : ℕ) → t < 2 → head later y t ≡ head slots y t
  other_object y other t two = elsewhere y t (λ e. let less = found.two in other (omega (arith, e, two, less)))

  other_as_before : (y : ℕ) → y ≢ x → IsAsBefore slots later y
  other_as_before y other =
      let first = other_object y other 0 (omega arith) in
      let second = other_object y other 1 (omega arith) in
      let holder = ap (λ (n : ℕ). nat_lt n (head later y 1)) first ∙ ap (λ (n : ℕ). nat_lt (head slots y 0) n) second in
      let spares = ap (λ (n : ℕ). nat_lt n (head later y 0)) second ∙ ap (λ (n : ℕ). nat_lt (head slots y 1) n) first in
      let either : (b : Bool) → head later y (if b then 1 else 0) ≡ head slots y (if b then 1 else 0) = λ b. elim b as (λ c. head later y (if c then 1 else 0) ≡ head slots y (if c then 1 else 0)) [ true ↦ second | false ↦ first ] in (
        ap (λ (b : Bool). head later y (if b then 1 else 0)) holder ∙ either (nat_lt (head slots y 0) (head slots y 1)),
        ap (λ (b : Bool). if b then 1 else 0) spares,
      )

  each : (y : ℕ) → IsAsBefore slots later y
  each y = elim (cases_eq y x) [
    | inl same ↦ subst (λ (z : ℕ). IsAsBefore slots later z) (sym same) same_object
    | inr other ↦ other_as_before y other
  ]

  pub now_closed : spare_lsn later x ≡ 0
  now_closed = ap (λ (k : ℕ). head later x k) same_object.1 ∙ here

  pub closing : IsClosing slots later
  closing = record {
    layout = refl;
    lsns_kept = λ y. (each y).0;
    lengths = refl;
    spares = λ y. (each y).1;
    spare_lsns = λ y. elim (cases_eq y x) [
      | inl same ↦ inr (subst (λ (z : ℕ). spare_lsn later z ≡ 0) (sym same) now_closed)
      | inr other ↦ inl (ap (λ (k : ℕ). head later y k) (each y).1 ∙ other_object y other (spare_in slots y) (spare slots y).two)
    ];
  }

  -- in the file too
  module _ (at : ℕ) (at_is : at ≡ spare_place slots x) (old new : List ℕ) (of : AreOf slots old) (holds : HoldsAt at (0 ∷ []) old new) where
    abbrev p : Params
    p = slots.params

    abbrev place : ℕ
    place = place_in old x s

    there_is : at ≡ place
    there_is = at_is ∙ place_of_file slots old x s of

    agrees : AgreesOutside place (13 + p.cap) old new
    agrees = agrees_wider place 1 place (13 + p.cap) old new (omega arith) (omega arith) (subst (λ (q : ℕ). AgreesOutside q 1 old new) there_is (held_agrees at (0 ∷ []) old new holds))

    closed : IsClosedAt place new
    closed is_open =
        let written : byte_at at new ≡ 0 = ap (λ (l : List ℕ). byte_at at l) holds ∙ byte_written at 0 old in
        let one : byte_at at new ≡ 1 = ap (λ (q : ℕ). byte_at q new) there_is ∙ is_open in
        absurd (omega (arith, written, one))

    no_greater : open_lsn place old ≤ open_lsn (place_in old x (1 - s)) old
    no_greater = omega (arith, of.heads x s below found.two, of.heads x (1 - s) below (omega arith), found.lower)

    moved : layout_in new ≡ layout_in old
    moved = stands p x s old new of.whole below found.two agrees

    cells : (y : ℕ) → y < p.objects → cell_of y new ≡ cell_of y old
    cells y below_y =
        let has = kept p x s old new of.whole below found.two agrees no_greater (closed_lower p.cap place (open_lsn (place_in old x (1 - s)) old) new closed) in
        elim (cases_eq y x) [
          | inl same ↦ subst (λ (z : ℕ). cell_of z new ≡ cell_of z old) (sym same) has.held
          | inr other ↦ has.others y below_y other
        ]

    pub later_are : AreOf later new
    later_are = record {
      whole = (kept p x s old new of.whole below found.two agrees no_greater (closed_lower p.cap place (open_lsn (place_in old x (1 - s)) old) new closed)).whole;
      first = of.first ∙ ap (λ (l : Layout). l.first) (sym moved);
      heads = λ y t below_y two_t. elim (cases_eq (2 * y + t) (2 * x + s)) [
        | inl same ↦
            let places : place_in new y t ≡ place = ap (λ (l : Layout). slot_place l y t) moved ∙ ap (λ (k : ℕ). slot_gate (layout_in old) k) same in
            get_or-set_at slots.heads slot (2 * y + t) 0 0 (same ∙ sym slot_is) room ∙ sym (closed_tells place new closed) ∙ ap (λ (q : ℕ). open_lsn q new) (sym places)
        | inr other ↦
            elsewhere y t other
            ∙ of.heads y t below_y two_t
            ∙ sym (ap (λ (c : Cell). c.lsn) (each_stays p x s old new of.whole below found.two agrees y t below_y two_t other).cell)
            ∙ ap (λ (l : Layout). open_lsn (slot_place l y t) new) (sym moved)
      ];
      lengths = λ y below_y. of.lengths y below_y ∙ ap (λ (c : Cell). length c.value) (sym (cells y below_y));
    }

-- the same of a call that counts slots through the file, and knows its slots from inside
module _ (inside slots : SlotsView) (same : inside ≡ slots) (heads : AreHeads (layout_of inside) inside.heads inside.lengths) (x slot found at : ℕ) (layout : Layout) (below : x < slots.params.objects) (slot_is : slot ≡ 2 * x + spare_in slots x)
    (found_is : found ≡ get_or inside.heads slot found) (layout_is : layout ≡ layout_of slots) (at_is : at ≡ slot_gate layout slot) where
  pub room : slot < length inside.heads
  room = slot_room inside slots x slot same heads below slot_is

  pub lsn_found : found ≡ spare_lsn slots x
  lsn_found = found_is ∙ get_or_default inside.heads slot found 0 room ∙ ap (λ (k : ℕ). get_or inside.heads k 0) slot_is ∙ ap (λ (w : SlotsView). head w x (spare_in slots x)) same

  pub place_found : at ≡ spare_place slots x
  place_found = at_is ∙ ap (λ (l : Layout). slot_gate l slot) layout_is ∙ ap (λ (k : ℕ). slot_gate (layout_of slots) k) slot_is

  pub gate_written : found ≢ 0 → (old new : Disk) → Runs (In Objects (Torn at 1)) Same old new → Runs (In Objects (KeepsButGates slots)) Same old new
  gate_written some old new run = gate_run slots x at below (λ none. some (lsn_found ∙ none)) place_found old new run

  pub spare_written : found ≡ 0 → (n : ℕ) → n ≤ slots.params.cap → (old mid new : Disk) → Stays old mid → Runs (In Objects (Torn (at + 1) (12 + n))) Same mid new → Runs (In Objects (KeepsButSpares slots)) Same old new
  spare_written none n short old mid new look run =
      look_first (KeepsButSpares slots) (keeps_none (layout_of slots) (IsSpareByte slots)) old mid new look (spare_run slots x at below (sym lsn_found ∙ none) place_found n short mid new run)

  pub filled_others : (n : ℕ) → n ≤ slots.params.cap → (old mid new : Disk) → Stays old mid → Runs (In Objects (Torn (at + 1) (12 + n))) Same mid new → old.tells_files → KeepsFilledBut slots x (old.reads Objects) (new.reads Objects)
  filled_others n short old mid new look run told =
      subst (λ (f : Files). KeepsFilledBut slots x (f Objects) (new.reads Objects)) (look.reads told)
      (others_filled slots x at below place_found n short (mid.reads Objects) (new.reads Objects) (run.reads (look.time.files_told.0 told)).changed)

  pub below_inside : x < inside.params.objects
  below_inside = omega (arith, below, ap (λ (w : SlotsView). w.params.objects) same)

  pub slot_inside : slot ≡ 2 * x + spare_in inside x
  slot_inside = slot_is ∙ ap (λ (w : SlotsView). 2 * x + spare_in w x) (sym same)

  pub closing_inside : IsClosing slots (later inside x slot below_inside slot_inside room)
  closing_inside = subst (λ (w : SlotsView). IsClosing w (later inside x slot below_inside slot_inside room)) same (closing inside x slot below_inside slot_inside room)

  pub are_inside : (old new : List ℕ) → AreOf slots old → HoldsAt at (0 ∷ []) old new → AreOf (later inside x slot below_inside slot_inside room) new
  are_inside old new of holds =
      later_are inside x slot below_inside slot_inside room at (place_found ∙ ap (λ (w : SlotsView). spare_place w x) (sym same)) old new (subst (λ (w : SlotsView). AreOf w old) (sym same) of) holds
