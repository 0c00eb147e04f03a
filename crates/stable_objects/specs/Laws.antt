-- Laws of the objects file: its header names one store, it begins a store, and it has no fault.
use Rattle.std.proofs.Common.{◌≡◌, ◌+◌, ℕ, List, take, drop, length, get_or, sym, ◌∙◌, ap, subst, arith}
use Rattle.std.specs.Prelude.{◌<◌, codes}
use Rattle.std.proofs.Common.{inl, inr}
use Rattle.std.proofs.lemmas.Bool.{cases_eq, cases_lt}
use Rattle.std.proofs.lemmas.List.{drop-take, get_or-take}
use Rattle.formats.specs.Bytes.{byte_at, IsOpenAt}
use Rattle.formats.specs.FirstFault.{Checks, stops, goes_on, one_check, NoMore, PairChecks, SlotChecks, IsFirstObjectsFault}
use Rattle.formats.specs.Objects.{BeginsStore, IsInRange, IsInForm, IsObjectsFile, form_in, params_in, layout_in, place_in, last_slot, lsn_at}
use Rattle.formats.specs.Image.{HasNumbers, IsOpenSlot, IsObjectsFault, magic, older_objects, older_cap, objects, cap, limit, cut, bad_lsn, long, twice}
use Rattle.formats.specs.declared.params.Params.{Params}
use Rattle.stable_objects.specs.LayoutLaws.{form_is}

-- an objects file has its numbers
pub params_of_file : (p : Params) (file : List ℕ) → IsObjectsFile p file → params_in file ≡ p
params_of_file p file is = is.params

-- and no others
pub one_store : (p q : Params) (file : List ℕ) → IsObjectsFile p file → IsObjectsFile q file → p ≡ q
one_store p q file is also = sym is.params ∙ also.params

-- an objects file begins a store
pub begins_store : (p : Params) (file : List ℕ) → IsObjectsFile p file → BeginsStore file
begins_store p file is = is.begins

-- where a store begins, the gate is open and the magic follows it
pub start_is_open : (file : List ℕ) → BeginsStore file → IsOpenAt 0 file
start_is_open file begins = sym (get_or-take 8 file 0 0 (omega arith)) ∙ ap (λ (l : List ℕ). get_or l 0 0) begins

pub magic_stands : (file : List ℕ) → BeginsStore file → take 7 (drop 1 file) ≡ codes "RDOOBJ0"
magic_stands file begins = sym (drop-take 1 7 file) ∙ ap (λ (l : List ℕ). drop 1 l) begins

-- the gate of an objects file is open
pub gate_is_open : (p : Params) (file : List ℕ) → IsObjectsFile p file → IsOpenAt 0 file
gate_is_open p file is = start_is_open file is.begins

nowhere : (file : List ℕ) (place : ℕ) → IsObjectsFile (params_in file) file → IsObjectsFault file place → ⊥
nowhere file place is (magic wrong) = wrong (magic_stands file is.begins)
nowhere file place is (older_objects wrong) = wrong is.in_form.older_objects
nowhere file place is (older_cap wrong) = wrong is.in_form.older_cap
nowhere file place is (objects wrong) = wrong ((is.in_range.some, is.in_form.objects), is.in_form.no_fewer, is.in_form.more)
nowhere file place is (cap wrong) = wrong ((is.in_range.low, is.in_form.cap), is.in_form.no_shorter)
nowhere file place is (limit wrong) = wrong (is.in_range.least, is.in_range.limit)
nowhere file place is (cut numbers short) = omega (arith, short, is.whole)
nowhere file place is (bad_lsn x s numbers slot wrong) =
    let whole = is.slots.each x s slot.below slot.two slot.open_gate in wrong (whole.some, omega (arith, whole.is_lsn))
nowhere file place is (long x s numbers slot wrong) = let whole = is.slots.each x s slot.below slot.two slot.open_gate in wrong whole.short whole.within
nowhere file place is (twice x numbers first second same) = is.slots.apart x first.below first.open_gate second.open_gate same

-- an objects file breaks its format nowhere
pub no_fault : (p : Params) (file : List ℕ) (place : ℕ) → IsObjectsFile p file → IsObjectsFault file place → ⊥
no_fault p file place is fault = nowhere file place (subst (λ (q : Params). IsObjectsFile q file) (sym (params_of_file p file is)) is) fault

-- where a check of an open slot fails, the slot is open
slot_open : (file : List ℕ) (x s : ℕ) (Check : Type 0) → x < (params_in file).objects → s < 2 → ((IsOpenAt (place_in file x s) file → Check) → ⊥) → IsOpenSlot file x s × (Check → ⊥)
slot_open file x s Check below two wrong = elim (cases_eq (byte_at (place_in file x s) file) 1) [
  | inl is_open ↦ (record { below = below; two = two; open_gate = is_open }, λ holds. wrong (λ _. holds))
  | inr closed ↦ absurd (wrong (λ is_open. absurd (closed is_open)))
]

-- the first check of an object's slots that fails is a fault of the file
pair_fault : (file : List ℕ) (x place : ℕ) → HasNumbers file → x < (params_in file).objects → PairChecks file x place → IsObjectsFault file place
pair_fault file x place is below (stops at wrong) =
    let slot = slot_open file x 0 _ below (omega arith) wrong in subst (λ (n : ℕ). IsObjectsFault file n) (sym at) (bad_lsn x 0 is slot.0 slot.1)
pair_fault file x place is below (goes_on _ (stops at wrong)) =
    let slot = slot_open file x 0 _ below (omega arith) wrong in subst (λ (n : ℕ). IsObjectsFault file n) (sym at) (long x 0 is slot.0 (λ short within. slot.1 (short, within)))
pair_fault file x place is below (goes_on _ (goes_on _ (stops at wrong))) =
    let slot = slot_open file x 1 _ below (omega arith) wrong in subst (λ (n : ℕ). IsObjectsFault file n) (sym at) (bad_lsn x 1 is slot.0 slot.1)
pair_fault file x place is below (goes_on _ (goes_on _ (goes_on _ (stops at wrong)))) =
    let slot = slot_open file x 1 _ below (omega arith) wrong in subst (λ (n : ℕ). IsObjectsFault file n) (sym at) (long x 1 is slot.0 (λ short within. slot.1 (short, within)))
pair_fault file x place is below (goes_on _ (goes_on _ (goes_on _ (goes_on _ (stops at wrong))))) =
    let first = slot_open file x 0 _ below (omega arith) wrong in
    let second = slot_open file x 1 _ below (omega arith) first.1 in
    let same : lsn_at (place_in file x 0) file ≡ lsn_at (place_in file x 1) file = elim (cases_eq (lsn_at (place_in file x 0) file) (lsn_at (place_in file x 1) file)) [
      | inl is ↦ is
      | inr differ ↦ absurd (second.1 differ)
    ] in
    subst (λ (n : ℕ). IsObjectsFault file n) (sym at) (twice x is first.0 second.0 same)
pair_fault file x place is below (goes_on _ (goes_on _ (goes_on _ (goes_on _ (goes_on _ never))))) = absurd never

-- the first check of the objects file that fails is a fault of it
pub first_is_fault : (file : List ℕ) (place : ℕ) → IsFirstObjectsFault file place → IsObjectsFault file place
first_is_fault file place (stops at wrong) = subst (λ (n : ℕ). IsObjectsFault file n) (sym at) (magic wrong)
first_is_fault file place (goes_on _ (stops at wrong)) = subst (λ (n : ℕ). IsObjectsFault file n) (sym at) (older_objects wrong)
first_is_fault file place (goes_on _ (goes_on _ (stops at wrong))) = subst (λ (n : ℕ). IsObjectsFault file n) (sym at) (older_cap wrong)
first_is_fault file place (goes_on _ (goes_on _ (goes_on _ (stops at wrong)))) = subst (λ (n : ℕ). IsObjectsFault file n) (sym at) (objects wrong)
first_is_fault file place (goes_on _ (goes_on _ (goes_on _ (goes_on _ (stops at wrong))))) = subst (λ (n : ℕ). IsObjectsFault file n) (sym at) (cap wrong)
first_is_fault file place (goes_on _ (goes_on _ (goes_on _ (goes_on _ (goes_on _ (stops at wrong)))))) = subst (λ (n : ℕ). IsObjectsFault file n) (sym at) (limit wrong)
first_is_fault file place (goes_on m (goes_on few (goes_on short (goes_on o (goes_on c (goes_on l behind)))))) = slots behind
  where
    in_form : IsInForm (form_in file) (params_in file)
    in_form = record { older_objects = few; older_cap = short; no_fewer = o.1; objects = o.0.1; no_shorter = c.1; cap = c.0.1; more = o.2 }

    in_range : IsInRange (params_in file)
    in_range =
        let form = form_is file few short in
        record { some = o.0.0; objects = omega (arith, o.0.1, form.most_objects); low = c.0.0; cap = omega (arith, c.0.1, form.most_cap); least = l.0; limit = l.1 }

    slots : Checks 0 (last_slot (layout_in file) < length file) (SlotChecks file) place → IsObjectsFault file place
    slots (stops at wrong) = elim (cases_lt (last_slot (layout_in file)) (length file)) [
      | inl less ↦ absurd (wrong less)
      | inr more ↦ subst (λ (n : ℕ). IsObjectsFault file n) (sym at) (cut (in_range, in_form) more)
    ]
    slots (goes_on _ found) = pair_fault file found.x place (in_range, in_form) found.below found.fault

slots_one : (file : List ℕ) (p q : ℕ) → SlotChecks file p → SlotChecks file q → p ≡ q
slots_one file p q a b = elim (cases_lt a.x b.x) [
  | inl less ↦ absurd (b.before a.x p less a.fault)
  | inr more ↦ elim (cases_lt b.x a.x) [
    | inl less ↦ absurd (a.before b.x q less b.fault)
    | inr again ↦
        let same : b.x ≡ a.x = omega (arith, more, again) in
        let never : NoMore p → NoMore q → p ≡ q = λ none. absurd none in
        one_check _ p q (one_check _ p q (one_check _ p q (one_check _ p q (one_check _ p q never)))) a.fault (subst (λ (n : ℕ). PairChecks file n q) same b.fault)
  ]
]

-- the first check of the objects file that fails is one
pub one_objects_fault : (file : List ℕ) (p q : ℕ) → IsFirstObjectsFault file p → IsFirstObjectsFault file q → p ≡ q
one_objects_fault file p q a b =
    let numbers = (form_in file).numbers in
    one_check 1 p q (one_check 9 p q (one_check 13 p q (one_check numbers p q (one_check (numbers + 4) p q (one_check (numbers + 8) p q (one_check 0 p q (slots_one file p q))))))) a b

-- an objects file passes them all
pub no_first_fault : (p : Params) (file : List ℕ) (place : ℕ) → IsObjectsFile p file → IsFirstObjectsFault file place → ⊥
no_first_fault p file place is fault = no_fault p file place is (first_is_fault file place fault)
