-- A larger store that is laid out behind the slots of another.
use Rattle.std.proofs.Common.{◌≡◌, inl, inr, ◌<◌, ◌≤◌, ◌+◌, ℕ, List, [], ◌∷◌, length, drop, refl, sym, ◌∙◌, ap, subst, arith}
use Rattle.std.specs.Prelude.{false}
use Rattle.std.proofs.lemmas.List.{drop_all}
use Rattle.disk_model.specs.Disk.{HoldsAt}
use Rattle.formats.specs.Bytes.{byte_at, number_at}
use Rattle.formats.specs.Objects.{BeginsStore, IsInRange, IsInForm, AreSlotsClosed, bounds_of, first_form, second_form, form_in, params_at, params_in, layout_in, slot_place, last_slot, number_fields}
use Rattle.formats.specs.declared.form.Form.{Form}
use Rattle.formats.specs.declared.layout.Layout.{Layout}
use Rattle.formats.specs.declared.params.Params.{Params}
use Rattle.stable_objects.specs.Upgrades.Larger.{IsLarger, larger_layout, seconded}
use Rattle.stable_objects.specs.LayoutLaws.{first_is, first_unset, four_bytes, params_at_same, second_in}
use Rattle.stable_objects.specs.Making.{KeepsFront, HasClosedSlots, IsNewFile}
use Rattle.stable_objects.specs.Replacing.{AgreesOutside}
use Rattle.stable_objects.specs.SlotsView.{SlotsView, AreOf}
use Rattle.stable_objects.proofs.Bytes.{byte_written}
use Rattle.stable_objects.proofs.Outside.{held_agrees, read_same, number_stays}
use Rattle.stable_objects.proofs.Fields.{numbers_stand, small_range, stands_behind, length-number_fields}
use Rattle.stable_objects.proofs.Made.{closed_behind}

-- a file that keeps all up to a place agrees with itself outside of what follows
pub front_agrees : (at : ℕ) (old new : List ℕ) → KeepsFront at old new → AgreesOutside at (length new) old new
front_agrees at old new keeps = record {
  no_shorter = keeps.0;
  before = keeps.1;
  behind = drop_all (at + length new) new (omega arith) ∙ sym (drop_all (at + length new) old (omega (arith, keeps.0)));
}

module _ (slots : SlotsView) (q : Params) (old mid new : List ℕ) (are : AreOf slots old) (first : slots.first ≡ 32) (larger : IsLarger slots.params q) (in_range : IsInRange q)
    (keeps : KeepsFront (second_form (bounds_of slots.params)).first old mid) (closed : HasClosedSlots (larger_layout slots q) mid) (holds : HoldsAt (second_form (bounds_of slots.params)).numbers (number_fields q) mid new) where
  was : form_in old ≡ first_form
  was = first_is old (sym are.first ∙ first)

  fits : IsInForm first_form slots.params
  fits = subst (λ (f : Form). IsInForm f slots.params) was are.whole.in_form

  numbers : params_at 9 old ≡ slots.params
  numbers = ap (λ (f : Form). params_at f.numbers old) (sym was) ∙ are.whole.params

  reach : 32 ≤ length old
  reach = omega (arith, are.whole.whole, ap (λ (f : Form). f.first) was)

  one : AgreesOutside (second_form (bounds_of slots.params)).first (length mid) old mid
  one = front_agrees (second_form (bounds_of slots.params)).first old mid keeps

  two : AgreesOutside (second_form (bounds_of slots.params)).numbers (length (number_fields q)) mid new
  two = held_agrees (second_form (bounds_of slots.params)).numbers (number_fields q) mid new holds

  three : AgreesOutside 8 1 new (seconded new)
  three = held_agrees 8 (50 ∷ []) new (seconded new) refl

  early : (k place : ℕ) → place + k ≤ 32 → number_at k place new ≡ number_at k place old
  early k place within =
      number_stays (second_form (bounds_of slots.params)).numbers (length (number_fields q)) mid new two place k (inl (omega (arith, within), omega (arith, within, reach, one.no_shorter)))
      ∙ number_stays (second_form (bounds_of slots.params)).first (length mid) old mid one place k (inl (omega (arith, within), omega (arith, within, reach)))

  behind : (k place : ℕ) → 9 ≤ place → number_at k place (seconded new) ≡ number_at k place new
  behind k place le = number_stays 8 1 new (seconded new) three place k (inr (omega (arith, le)))

  unset : slots.params.more ≡ false
  unset = first_unset slots.params fits

  objects : number_at 4 9 (seconded new) ≡ slots.params.objects
  objects = behind 4 9 (omega arith) ∙ early 4 9 (omega arith) ∙ four_bytes 9 old (ap (λ (p : Params). p.more) numbers ∙ unset) ∙ ap (λ (p : Params). p.objects) numbers

  cap : number_at 4 13 (seconded new) ≡ slots.params.cap
  cap = behind 4 13 (omega arith) ∙ early 4 13 (omega arith) ∙ ap (λ (p : Params). p.cap) numbers

  form : form_in (seconded new) ≡ second_form (bounds_of slots.params)
  form = second_in (seconded new) (byte_written 8 50 new) ∙ (λ i. second_form (record { objects = objects i; cap = cap i; more = sym unset i }))

  at_numbers : params_at (second_form (bounds_of slots.params)).numbers (seconded new) ≡ q
  at_numbers =
      let place = (second_form (bounds_of slots.params)).numbers in
      let own : params_at place new ≡ q = numbers_stand q (small_range q in_range) place new (drop (length (number_fields q)) (drop place new)) (stands_behind place (number_fields q) mid new holds) in
      params_at_same place place (seconded new) new (λ k at within. behind k (place + at) (omega arith)) ∙ own

  params : params_in (seconded new) ≡ q
  params = ap (λ (f : Form). params_at f.numbers (seconded new)) form ∙ at_numbers

  layout : layout_in (seconded new) ≡ larger_layout slots q
  layout = λ i. record { params = params i; first = (form i).first }

  begins : BeginsStore (seconded new)
  begins =
      read_same 8 1 new (seconded new) three 0 8 (inl (omega arith, omega (arith, reach, one.no_shorter, two.no_shorter)))
      ∙ read_same (second_form (bounds_of slots.params)).numbers (length (number_fields q)) mid new two 0 8 (inl (omega arith, omega (arith, reach, one.no_shorter)))
      ∙ read_same (second_form (bounds_of slots.params)).first (length mid) old mid one 0 8 (inl (omega arith, omega (arith, reach)))
      ∙ are.whole.begins

  all_closed : HasClosedSlots (larger_layout slots q) (seconded new)
  all_closed = closed_behind (larger_layout slots q) 8 (50 ∷ []) new (seconded new) (omega arith) refl
      (closed_behind (larger_layout slots q) (second_form (bounds_of slots.params)).numbers (number_fields q) mid new (omega (arith, length-number_fields q)) holds closed)

  in_form : IsInForm (second_form (bounds_of slots.params)) q
  in_form = record {
    older_objects = fits.objects;
    older_cap = fits.cap;
    no_fewer = larger.objects;
    objects = in_range.objects;
    no_shorter = larger.cap;
    cap = in_range.cap;
    more = λ set. refl;
  }

  slots_closed : AreSlotsClosed q (seconded new)
  slots_closed x s below two_s is_open = all_closed.slots x s below two_s (ap (λ (l : Layout). byte_at (slot_place l x s) (seconded new)) (sym layout) ∙ is_open)

  pub larger_laid : IsNewFile q (seconded new)
  larger_laid = record {
    whole = record {
      begins = begins;
      params = params;
      in_range = in_range;
      in_form = subst (λ (f : Form). IsInForm f q) (sym form) in_form;
      whole = subst (λ (l : Layout). last_slot l < length (seconded new)) (sym layout) all_closed.whole;
      slots = record {
        each = λ x s below two_s is_open. absurd (slots_closed x s below two_s is_open);
        apart = λ x below one_open other_open same. slots_closed x 0 below (omega arith) one_open;
      };
    };
    closed = slots_closed;
  }
