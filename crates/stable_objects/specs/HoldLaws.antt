-- Objects are held in the slots that didn't hold them, one after the other.
use Rattle.std.proofs.Common.{◌≡◌, ◌≢◌, inl, inr, ◌<◌, ℕ, Bool, true, false, if◌then◌else◌, nat_lt, List, [], length, refl, sym, ◌∙◌, ap, subst, arith}
use Rattle.std.specs.Prelude.{◌==◌, ◌||◌, IsTrue, IsFalse}
use Rattle.std.proofs.lemmas.Bool.{both_ways, cases_eq, eq-eqb, ne_eqb}
use Rattle.oper_core.specs.Cell.{Cell}
use Rattle.oper_core.specs.State.{is_among}
use Rattle.stable_objects.specs.Ready.{AreHeld, IsHeld}
use Rattle.stable_objects.specs.Replacing.{spare_in}
use Rattle.stable_objects.specs.SlotsView.{SlotsView, head, length_in}

-- none of them is yet
pub held_none : (slots : SlotsView) (pairs : ℕ → Cell) → AreHeld slots slots [] pairs
held_none slots pairs = record {
  layout = refl;
  heads = λ x below among. absurd (both_ways _ refl among);
  other_slots = λ x s below two other. refl;
  other_heads = λ x s below two off. refl;
  lengths = λ x below among. absurd (both_ways _ refl among);
  other_lengths = λ x below off. refl;
}

-- the same objects, in another list
pub held_as : (before after : SlotsView) (done more : List ℕ) (pairs : ℕ → Cell) → ((y : ℕ) → is_among y more ≡ is_among y done) → AreHeld before after done pairs → AreHeld before after more pairs
held_as before after done more pairs same was = record {
  layout = was.layout;
  heads = λ x below among. was.heads x below (sym (same x) ∙ among);
  other_slots = was.other_slots;
  other_heads = λ x s below two off. was.other_heads x s below two (sym (same x) ∙ off);
  lengths = λ x below among. was.lengths x below (sym (same x) ∙ among);
  other_lengths = λ x below off. was.other_lengths x below (sym (same x) ∙ off);
}

-- and one more, that is not among those that are
module _ (before mid after : SlotsView) (done more : List ℕ) (pairs : ℕ → Cell) (x : ℕ) (was : AreHeld before mid done pairs) (off : IsFalse (is_among x done)) (is : IsHeld mid after x (pairs x).lsn (length (pairs x).value))
    (next : (y : ℕ) → is_among y more ≡ ((y == x) || is_among y done)) where
  abbrev objects : ℕ
  objects = before.params.objects

  -- another one is among them where it was
  beside : (y : ℕ) → y ≢ x → is_among y more ≡ is_among y done
  beside y other = next y ∙ ap (λ (b : Bool). b || is_among y done) (ne_eqb y x other)

  here : IsTrue (is_among x more)
  here = next x ∙ ap (λ (b : Bool). b || is_among x done) (eq-eqb x x refl)

  module _ (below : x < objects) where
    spare_was : spare_in mid x ≡ spare_in before x
    spare_was =
        let first = was.other_heads x 0 below (omega arith) off in
        let second = was.other_heads x 1 below (omega arith) off in
        ap (λ (n : ℕ). if nat_lt n (head mid x 0) then 1 else 0) second ∙ ap (λ (n : ℕ). if nat_lt (head before x 1) n then 1 else 0) first

    x_opened : head after x (spare_in before x) ≡ (pairs x).lsn
    x_opened = ap (λ (s : ℕ). head after x s) (sym spare_was) ∙ is.opened

  spare_two : (y : ℕ) → spare_in before y < 2
  spare_two y = elim (nat_lt (head before y 1) (head before y 0)) as (λ b. (if b then 1 else 0) < 2) [ true ↦ omega arith | false ↦ omega arith ]

  pub held_more : AreHeld before after more pairs
  held_more = record {
    layout = is.layout ∙ was.layout;
    heads = λ y below among. elim (cases_eq y x) [
      | inl same ↦ subst (λ (z : ℕ). head after z (spare_in before z) ≡ (pairs z).lsn) (sym same) (x_opened (subst (λ (z : ℕ). z < objects) same below))
      | inr other ↦ is.other_heads y (spare_in before y) (spare_two y) (inl other) ∙ was.heads y below (sym (beside y other) ∙ among)
    ];
    other_slots = λ y s below two differs. elim (cases_eq y x) [
      | inl same ↦
          is.other_heads y s two (inr (λ e. differs (e ∙ spare_was (subst (λ (z : ℕ). z < objects) same below) ∙ ap (λ (z : ℕ). spare_in before z) (sym same))))
          ∙ was.other_slots y s below two differs
      | inr other ↦ is.other_heads y s two (inl other) ∙ was.other_slots y s below two differs
    ];
    other_heads = λ y s below two none.
        let other : y ≢ x = λ same. both_ways _ none (subst (λ (z : ℕ). IsTrue (is_among z more)) (sym same) here) in
        is.other_heads y s two (inl other) ∙ was.other_heads y s below two (sym (beside y other) ∙ none);
    lengths = λ y below among. elim (cases_eq y x) [
      | inl same ↦ subst (λ (z : ℕ). length_in after z ≡ length (pairs z).value) (sym same) is.long_is
      | inr other ↦ is.other_lengths y other ∙ was.lengths y below (sym (beside y other) ∙ among)
    ];
    other_lengths = λ y below none.
        let other : y ≢ x = λ same. both_ways _ none (subst (λ (z : ℕ). IsTrue (is_among z more)) (sym same) here) in
        is.other_lengths y other ∙ was.other_lengths y below (sym (beside y other) ∙ none);
  }
