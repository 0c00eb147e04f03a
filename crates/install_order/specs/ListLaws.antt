-- Tests over lists and over the LSNs below a bound.
use Rattle.std.proofs.Common.{sym, subst, ℕ, zero, suc, ◌<◌, Bool, true, not, List, [], ◌∷◌, refl, arith, inl, inr}
use Rattle.std.specs.Prelude.{IsTrue, ◌||◌, ◌&&◌, ◌==◌}
use Rattle.std.specs.List.{list_any, list_all}
use Rattle.std.proofs.lemmas.Bool.{cases_eq, both_ways, or_left, or_right, or_cases, and_parts, and_from, eqb-true, eq-eqb, not-true}
use Rattle.oper_core.specs.State.{is_among}

-- an element that passes: each other test that it passes is passed by some element, and a test that all pass is passed by it
pub any-gives : {X : Type 0} (t : X → Bool) (xs : List X) → IsTrue (list_any t xs) → (x : X) × IsTrue (t x) × ((u : X → Bool) → IsTrue (u x) → IsTrue (list_any u xs)) × ((u : X → Bool) → IsTrue (list_all u xs) → IsTrue (u x))
any-gives t [] e = absurd (both_ways _ refl e)
any-gives t (x ∷ xs) e = elim (or_cases (t x) (list_any t xs) e) [
  | inl here ↦ (x, here, (λ u p. or_left (u x) (list_any u xs) p), (λ u p. (and_parts (u x) (list_all u xs) p).0))
  | inr later ↦ let r = any-gives t xs later in
      (r.0, r.1, (λ u p. or_right (u x) (list_any u xs) (r.2 u p)), (λ u p. r.3 u (and_parts (u x) (list_all u xs) p).1))
]

-- all pass where each that passes by itself does
pub all-from : {X : Type 0} (t : X → Bool) (xs : List X) → ((x : X) → ((u : X → Bool) → IsTrue (u x) → IsTrue (list_any u xs)) → IsTrue (t x)) → IsTrue (list_all t xs)
all-from t [] each = refl
all-from t (x ∷ xs) each = and_from (t x) (list_all t xs) (each x (λ u p. or_left (u x) (list_any u xs) p)) (all-from t xs (λ y there. each y (λ u p. or_right (u x) (list_any u xs) (there u p))))

-- in a list of objects
pub in-from : (y : ℕ) (ys : List ℕ) → ((u : ℕ → Bool) → IsTrue (u y) → IsTrue (list_any u ys)) → IsTrue (is_among y ys)
in-from y ys there = there (λ z. y == z) (eq-eqb y y refl)

-- all LSNs below n pass
abbrev pub all_below : ℕ → (ℕ → Bool) → Bool
all_below zero p = true
all_below (suc n) p = p n && all_below n p

pub all_below-gives : (n : ℕ) (p : ℕ → Bool) (k : ℕ) → IsTrue (all_below n p) → k < n → IsTrue (p k)
all_below-gives zero p k e lt = absurd (omega arith)
all_below-gives (suc n) p k e lt =
    let u = and_parts (p n) (all_below n p) e in
    elim (cases_eq k n) [
      | inl q ↦ subst (λ (j : ℕ). IsTrue (p j)) (sym q) u.0
      | inr ne ↦ all_below-gives n p k u.1 (omega arith)
    ]

-- what all of a list pass, each of it passes
pub all-gives : (t : ℕ → Bool) (xs : List ℕ) (x : ℕ) → IsTrue (list_all t xs) → IsTrue (is_among x xs) → IsTrue (t x)
all-gives t xs x each there =
    let m = any-gives (λ y. x == y) xs there in
    subst (λ (y : ℕ). IsTrue (t y)) (sym (eqb-true x m.0 m.1)) (m.3 t each)

-- the second of two facts, of which the first is false where its test is true
pub second : (b c : Bool) → IsTrue (not b || c) → IsTrue b → IsTrue c
second b c e there = elim (or_cases (not b) c e) [ inl none ↦ absurd (both_ways _ (not-true b none) there) | inr d ↦ d ]
