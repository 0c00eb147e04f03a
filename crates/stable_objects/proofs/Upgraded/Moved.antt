-- How the pair of an object comes into the larger store.
use Rattle.std.proofs.Common.{◌≡◌, ◌≢◌, inr, ◌<◌, ◌≤◌, ◌+◌, ◌^◌, ℕ, List, [], ◌∷◌, length, refl, sym, ◌∙◌, ap, subst, arith}
use Rattle.std.specs.Prelude.{nat_lt}
use Rattle.std.proofs.lemmas.Bool.{cond-true, cond-false, lt-ltb, le-ltb}
use Rattle.oper_core.specs.Cell.{Cell}
use Rattle.formats.specs.Bytes.{number_at}
use Rattle.formats.specs.Objects.{IsInForm, bounds_of, first_form, second_form, form_in, params_at, layout_in, place_in, slot_place, holder, cell_of}
use Rattle.formats.specs.declared.form.Form.{Form}
use Rattle.formats.specs.declared.layout.Layout.{Layout}
use Rattle.formats.specs.declared.params.Params.{Params}
use Rattle.stable_objects.specs.Upgrades.Filling.{IsFilledTo}
use Rattle.stable_objects.specs.Upgrades.Growing.{pair_before}
use Rattle.stable_objects.specs.Upgrades.Larger.{IsFirst, IsLarger, IsStill, larger_layout, seconded}
use Rattle.stable_objects.specs.LayoutLaws.{first_is, first_unset, four_bytes, second_in}
use Rattle.stable_objects.specs.Replacing.{IsPut}
use Rattle.stable_objects.specs.SlotLaws.{open_tells, holder_below, lsn_is, held_is_open, value_short}
use Rattle.stable_objects.specs.SlotsView.{SlotsView, AreOf, lsn_in}
use Rattle.stable_objects.proofs.Bytes.{byte_written}
use Rattle.stable_objects.proofs.Upgraded.Filled.{filled_more, filled_past, put_with_byte}
use Rattle.stable_objects.proofs.Outside.{held_agrees, number_stays}
use Rattle.stable_objects.proofs.ValueBytes.{empty_value}

-- no pair
abbrev none : Cell
none = record { lsn = 0; value = [] }

pub own_pair : (p : Params) (file : List ℕ) (x : ℕ) → x < p.objects → pair_before p file x ≡ cell_of x file
own_pair p file x below = cond-true (nat_lt x p.objects) (cell_of x file) none (lt-ltb x p.objects below)

pub new_pair : (p : Params) (file : List ℕ) (x : ℕ) → p.objects ≤ x → pair_before p file x ≡ none
new_pair p file x past = cond-false (nat_lt x p.objects) (cell_of x file) none (le-ltb x p.objects past)

-- where the version's byte is written over a store's of version 1, the slots of the larger one stand behind its own
module _ (slots : SlotsView) (q : Params) (file : List ℕ) (are : AreOf slots file) (first : IsFirst slots) where
  was : form_in file ≡ first_form
  was = first_is file (sym are.first ∙ first)

  numbers : params_at 9 file ≡ slots.params
  numbers = ap (λ (f : Form). params_at f.numbers file) (sym was) ∙ are.whole.params

  behind : (place : ℕ) → 9 ≤ place → number_at 4 place (seconded file) ≡ number_at 4 place file
  behind place le = number_stays 8 1 file (seconded file) (held_agrees 8 (50 ∷ []) file (seconded file) refl) place 4 (inr (omega (arith, le)))

  form : form_in (seconded file) ≡ second_form (bounds_of slots.params)
  form =
      let unset = first_unset slots.params (subst (λ (f : Form). IsInForm f slots.params) was are.whole.in_form) in
      let objects = behind 9 (omega arith) ∙ four_bytes 9 file (ap (λ (p : Params). p.more) numbers ∙ unset) ∙ ap (λ (p : Params). p.objects) numbers in
      let cap = behind 13 (omega arith) ∙ ap (λ (p : Params). p.cap) numbers in
      second_in (seconded file) (byte_written 8 50 file) ∙ (λ i. second_form (record { objects = objects i; cap = cap i; more = sym unset i }))

  module _ (n : ℕ) (cells : ℕ → Cell) (filled : IsFilledTo q n cells (seconded file)) where
    layout : layout_in (seconded file) ≡ larger_layout slots q
    layout = λ i. record { params = filled.whole.params i; first = (form i).first }

    pub larger_place : (x s : ℕ) → place_in (seconded file) x s ≡ slot_place (larger_layout slots q) x s
    larger_place x s = ap (λ (l : Layout). slot_place l x s) layout

module _ (slots : SlotsView) (q : Params) (start old : List ℕ) (x : ℕ) (first : IsFirst slots) (larger : IsLarger slots.params q) (still : IsStill slots start old) (below : x < slots.params.objects)
    (filled : IsFilledTo q x (pair_before slots.params start) (seconded old)) where
  pair : pair_before slots.params start x ≡ cell_of x old
  pair = own_pair slots.params start x below ∙ sym (still.cells x below)

  there : x < q.objects
  there = omega (arith, below, larger.objects)

  -- an object without one is passed over
  pub passed_over : lsn_in slots x ≡ 0 → IsFilledTo q (x + 1) (pair_before slots.params start) (seconded old)
  passed_over zero =
      let lsn : (cell_of x old).lsn ≡ 0 = sym (lsn_is slots old x still.are below) ∙ zero in
      let value = empty_value slots old x still.are below zero in
      filled_past q x (pair_before slots.params start) (seconded old) filled there (pair ∙ (λ i. record { lsn = lsn i; value = value i }))

  -- the pair of another is put
  module _ (lsn : ℕ) (value new : List ℕ) (some : lsn ≢ 0) (lsn_is_own : lsn ≡ lsn_in slots x) (value_is : value ≡ (cell_of x old).value)
      (put : IsPut (slot_place (larger_layout slots q) x 0) lsn value old new) where
    cell_lsn : (pair_before slots.params start x).lsn ≡ lsn
    cell_lsn = ap (λ (c : Cell). c.lsn) pair ∙ sym (lsn_is slots old x still.are below) ∙ sym lsn_is_own

    cell_value : (pair_before slots.params start x).value ≡ value
    cell_value = ap (λ (c : Cell). c.value) pair ∙ sym value_is

    is_lsn : lsn < 2 ^ 62
    is_lsn =
        let place = place_in old x (holder x old) in
        let is_open = held_is_open slots old x still.are below (λ zero. some (lsn_is_own ∙ zero)) in
        let whole = still.are.whole.slots.each x (holder x old) below (holder_below x old) is_open in
        omega (arith, whole.is_lsn, open_tells place old is_open, lsn_is slots old x still.are below, lsn_is_own)

    short : length value ≤ q.cap
    short = omega (arith, ap length value_is, value_short slots.params old x still.are.whole below, larger.cap)

    reach : 32 ≤ length old
    reach = omega (arith, still.are.whole.whole, ap (λ (f : Form). f.first) (was slots q old still.are first))

    pub put_over : IsFilledTo q (x + 1) (pair_before slots.params start) (seconded new)
    put_over =
        let place = slot_place (larger_layout slots q) x 0 in
        let written = put_with_byte 8 50 place lsn value old new (omega arith) (omega (arith, reach)) put in
        let spot : place ≡ place_in (seconded old) x 0 = sym (larger_place slots q old still.are first x (pair_before slots.params start) filled x 0) in
        (filled_more q x (pair_before slots.params start) (seconded old) (seconded new) filled there (omega (arith, cell_lsn, some)) (omega (arith, cell_lsn, is_lsn)) (omega (arith, ap length cell_value, short))
        (subst (λ (k : ℕ). IsPut k (pair_before slots.params start x).lsn (pair_before slots.params start x).value (seconded old) (seconded new)) spot
        (subst (λ (k : ℕ). IsPut place k (pair_before slots.params start x).value (seconded old) (seconded new)) (sym cell_lsn)
        (subst (λ (v : List ℕ). IsPut place lsn v (seconded old) (seconded new)) (sym cell_value) written)))).0
