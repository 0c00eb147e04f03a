-- Laws of forms and layouts: those of a file, and which of its bytes say them.
use Rattle.std.proofs.Common.{◌≡◌, ◌≢◌, inl, inr, ◌≤◌, ◌+◌, ◌*◌, ℕ, List, drop, refl, sym, ◌∙◌, ap, subst, arith}
use Rattle.std.specs.Prelude.{◌&&◌, Bool, true, false, not, nat_eq, nat_le, nat_lt, slice_index, if◌then◌else◌}
use Rattle.std.proofs.lemmas.Bool.{cond_both, cond-true, cond-false, eq-eqb, ne_eqb, cases_eq, and_parts, leb-true, ltb-false, not-true}
use Rattle.std.proofs.lemmas.List.{get_or-drop}
use Rattle.std.proofs.lemmas.Nat.{mul-le}
use Rattle.oper_core.specs.declared.bounds.Bounds.{Bounds}
use Rattle.formats.specs.Bytes.{byte_at, number_at}
use Rattle.formats.specs.Objects.{IsInRange, IsInForm, IsObjectsFile, is_second, is_set, first_form, second_form, form_in, params_at, params_in, layout_in}
use Rattle.formats.specs.declared.form.Form.{Form}
use Rattle.formats.specs.declared.params.Params.{Params}
use Rattle.stable_objects.specs.Layouts.{IsForm, IsLayout, fits_first, no_store, new_form, new_layout}

pub first_is_form : IsForm first_form
first_is_form = record {
  older_objects = omega arith;
  older_cap = omega arith;
  most_objects = omega arith;
  most_cap = omega arith;
  behind = omega arith;
  between = omega arith;
  header = omega arith;
  near = omega arith;
  small = λ here. (omega arith, omega arith, refl);
}

pub second_is_form : (older : Bounds) → older.objects ≤ 4096 → older.cap ≤ 16384 → IsForm (second_form older)
second_is_form older few short =
    let room = mul-le (2 * older.objects) (13 + older.cap) 8192 16397 (omega (arith, few)) (omega (arith, short)) in
    record {
      older_objects = few;
      older_cap = short;
      most_objects = omega arith;
      most_cap = omega arith;
      behind = omega arith;
      between = omega arith;
      header = omega arith;
      near = omega (arith, room);
      small = λ here. absurd (omega (arith, here));
    }

-- the version's byte says the form
pub second_in : (file : List ℕ) → byte_at 8 file ≡ 50 → form_in file ≡ second_form (record { objects = number_at 4 9 file; cap = number_at 4 13 file; more = false })
unfolding form_in
second_in file version =
    cond-true (is_second file) (second_form (record { objects = number_at 4 9 file; cap = number_at 4 13 file; more = false })) first_form (eq-eqb (byte_at 8 file) 50 version)

pub first_in : (file : List ℕ) → byte_at 8 file ≢ 50 → form_in file ≡ first_form
unfolding form_in
first_in file version =
    cond-false (is_second file) (second_form (record { objects = number_at 4 9 file; cap = number_at 4 13 file; more = false })) first_form (ne_eqb (byte_at 8 file) 50 version)

-- a file has a form, if the store that was there before was of version 1
pub form_is : (file : List ℕ) → (form_in file).older.objects ≤ 4096 → (form_in file).older.cap ≤ 16384 → IsForm (form_in file)
form_is file few short = elim (cases_eq (byte_at 8 file) 50) [
  | inl second ↦
      let is = second_in file second in
      let older : Bounds = record { objects = number_at 4 9 file; cap = number_at 4 13 file; more = false } in
      subst IsForm (sym is) (second_is_form older (subst (λ (f : Form). f.older.objects ≤ 4096) is few) (subst (λ (f : Form). f.older.cap ≤ 16384) is short))
  | inr first ↦ subst IsForm (sym (first_in file first)) first_is_form
]

-- where the slots begin at 32 the file is of version 1
pub first_is : (file : List ℕ) → (form_in file).first ≡ 32 → form_in file ≡ first_form
first_is file here = elim (cases_eq (byte_at 8 file) 50) [
  | inl second ↦ absurd (omega (arith, here, ap (λ (f : Form). f.first) (second_in file second)))
  | inr first ↦ first_in file first
]

-- and so has a new store's
pub new_is_form : (p : Params) → IsForm (new_form p)
new_is_form p = cond_both (fits_first p) first_form (second_form no_store) IsForm (λ fits. first_is_form) (λ large. second_is_form no_store (omega arith) (omega arith))

-- its numbers are within the ranges of its form
pub new_in_form : (p : Params) → IsInRange p → IsInForm (new_form p) p
new_in_form p is = cond_both (fits_first p) first_form (second_form no_store) (λ (f : Form). IsInForm f p)
    (λ fits.
    let both = and_parts (nat_le p.objects 4096 && nat_le p.cap 16384) (not p.more) fits in
    let parts = and_parts (nat_le p.objects 4096) (nat_le p.cap 16384) both.0 in
    record {
      older_objects = omega arith;
      older_cap = omega arith;
      no_fewer = omega arith;
      objects = leb-true p.objects 4096 parts.0;
      no_shorter = omega arith;
      cap = leb-true p.cap 16384 parts.1;
      more = λ set. sym (not-true p.more both.1) ∙ set;
    })
    (λ large. record { older_objects = omega arith; older_cap = omega arith; no_fewer = omega arith; objects = is.objects; no_shorter = omega arith; cap = is.cap; more = λ set. refl })

-- a switch is not set that is set only where another is, and that one is not
pub unset_by : (b c : Bool) → (b ≡ true → c ≡ true) → c ≡ false → b ≡ false
unset_by true c within unset = sym (within refl) ∙ unset
unset_by false c within unset = refl

-- a store of version 1 has no switch that is set
pub first_unset : (p : Params) → IsInForm first_form p → p.more ≡ false
first_unset p fits = unset_by p.more false fits.more refl

-- numbers that a form allows stand somewhere
pub in_layout : (form : Form) (p : Params) → IsForm form → IsInRange p → IsInForm form p → IsLayout (record { params = p; first = form.first })
in_layout form p known is fits = record {
  in_range = is;
  behind = known.header;
  near = known.near;
  small = λ here. let most = known.small here in (omega (arith, fits.objects, most.0), omega (arith, fits.cap, most.1), unset_by p.more form.most.more fits.more most.2);
}

pub new_is_layout : (p : Params) → IsInRange p → IsLayout (new_layout p)
new_is_layout p is = in_layout (new_form p) p (new_is_form p) is (new_in_form p is)

-- and so do those of a store
pub layout_is : (p : Params) (file : List ℕ) → IsObjectsFile p file → IsLayout (layout_in file)
layout_is p file is =
    let form = form_is file is.in_form.older_objects is.in_form.older_cap in
    in_layout (form_in file) (params_in file) form (subst IsInRange (sym is.params) is.in_range) (subst (λ (q : Params). IsInForm (form_in file) q) (sym is.params) is.in_form)

-- the byte of the version and the header's two numbers say the form
pub form_same : (a b : List ℕ) → byte_at 8 a ≡ byte_at 8 b → number_at 4 9 a ≡ number_at 4 9 b → number_at 4 13 a ≡ number_at 4 13 b → form_in a ≡ form_in b
unfolding form_in
form_same a b version objects cap = λ i. if nat_eq (version i) 50 then second_form (record { objects = objects i; cap = cap i; more = false }) else first_form

-- a byte is a number
byte_number : (place : ℕ) (file : List ℕ) → number_at 1 place file ≡ byte_at place file
byte_number place file =
    let spot : place + 0 ≡ place = omega arith in
    let first : slice_index (drop place file) 0 ≡ byte_at place file = get_or-drop place file 0 0 ∙ ap (λ (j : ℕ). byte_at j file) spot in
    omega (arith, first)

-- N is a number of four bytes where the last of them is 0
pub four_bytes : (place : ℕ) (file : List ℕ) → is_set place file ≡ false → number_at 4 place file ≡ number_at 3 place file
four_bytes place file unset =
    let last : slice_index (drop place file) 3 ≡ byte_at (place + 3) file = get_or-drop place file 3 0 in
    omega (arith, last, ltb-false 0 (byte_at (place + 3) file) unset)

-- the bytes of the numbers say them
pub params_at_same : (place other : ℕ) (a b : List ℕ) → ((k at : ℕ) → at + k ≤ 12 → number_at k (place + at) a ≡ number_at k (other + at) b) → params_at place a ≡ params_at other b
params_at_same place other a b same =
    let spot : (p : ℕ) → p + 0 ≡ p = λ p. omega arith in
    let objects : number_at 3 place a ≡ number_at 3 other b = ap (λ (p : ℕ). number_at 3 p a) (sym (spot place)) ∙ same 3 0 (omega arith) ∙ ap (λ (p : ℕ). number_at 3 p b) (spot other) in
    let switched : byte_at (place + 3) a ≡ byte_at (other + 3) b = sym (byte_number (place + 3) a) ∙ same 1 3 (omega arith) ∙ byte_number (other + 3) b in
    let cap = same 4 4 (omega arith) in
    let limit = same 4 8 (omega arith) in
    λ i. record { objects = objects i; cap = cap i; limit = limit i; more = nat_lt 0 (switched i) }

-- with the numbers they say the layout
pub layout_same : (a b : List ℕ) → form_in a ≡ form_in b → params_at (form_in a).numbers a ≡ params_at (form_in a).numbers b → layout_in a ≡ layout_in b
layout_same a b form numbers =
    let params : params_in a ≡ params_in b = numbers ∙ ap (λ (f : Form). params_at f.numbers b) form in
    λ i. record { params = params i; first = (form i).first }
