-- The objects that are due, taken one after the other.
use Rattle.std.proofs.Common.{◌≡◌, ◌∙◌, sym, ap, ℕ, ◌+◌, ◌<◌, ◌==◌, ◌&&◌, ◌||◌, Bool, true, false, List, [], ◌∷◌, ◌++◌, length, take, slice_index, refl}
use Rattle.std.proofs.Math.Bool.{or-false}
use Rattle.std.proofs.lemmas.Bool.{eqb-true}
use Rattle.std.proofs.lemmas.List.{take_more}
use Rattle.std.proofs.lemmas.List.Folds.{list_any-append}
use Rattle.oper_core.specs.State.{is_among}

-- an object more in a list
pub among_more : (due : List ℕ) (o x : ℕ) → is_among x (due ++ o ∷ []) ≡ (is_among x due || (x == o))
among_more due o x = list_any-append (λ y. x == y) due (o ∷ []) ∙ ap (λ (b : Bool). is_among x due || b) (or-false (x == o))

-- tests of two objects that are one where they count
cases : (e t s a : Bool) → (e ≡ true → s ≡ t) → ((a && t) || (e && s)) ≡ ((a || e) && t)
cases true true s a same = ap (λ (b : Bool). (a && true) || b) (same refl) ∙ or_true a
  where
    or_true : (b : Bool) → ((b && true) || true) ≡ ((b || true) && true)
    or_true true = refl
    or_true false = refl
cases true false s a same = ap (λ (b : Bool). (a && false) || b) (same refl) ∙ none a
  where
    none : (b : Bool) → ((b && false) || false) ≡ ((b || true) && false)
    none true = refl
    none false = refl
cases false t s true same = or-false t
cases false t s false same = refl

-- the due ones among one object more
pub due_next : (test : ℕ → Bool) (writes : List ℕ) (i : ℕ) (old new : ℕ → Bool) → i < length writes
    → ((x : ℕ) → old x ≡ (is_among x (take i writes) && test x))
    → ((x : ℕ) → new x ≡ (old x || ((x == slice_index writes i) && test (slice_index writes i))))
    → (x : ℕ) → new x ≡ (is_among x (take (i + 1) writes) && test x)
due_next test writes i old new within before step x =
    let o = slice_index writes i in
    step x
    ∙ ap (λ (b : Bool). b || ((x == o) && test o)) (before x)
    ∙ cases (x == o) (test x) (test o) (is_among x (take i writes)) (λ same. ap test (sym (eqb-true x o same)))
    ∙ ap (λ (b : Bool). b && test x) (sym (among_more (take i writes) o x) ∙ ap (is_among x) (sym (take_more writes i 0 within)))
