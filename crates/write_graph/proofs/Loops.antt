-- One element more of a list, as at a step of a loop.
use Rattle.std.proofs.Common.{◌≡◌, ◌∙◌, ap, sym, subst, ℕ, zero, suc, ◌+◌, ◌<◌, ◌≤◌, ◌⊎◌, Bool, true, false, not, true≢false, List, [], ◌∷◌, take, length, Some, None, refl, arith, inl, inr}
use Rattle.std.specs.Prelude.{IsTrue, ◌==◌, slice_get, slice_index}
use Rattle.std.proofs.lemmas.Bool.{both_ways, or_left, or_right, or_cases, eqb-true, eq-eqb}
use Rattle.oper_core.specs.State.{is_among}
use Rattle.write_graph.specs.Places.{place_in}
use Rattle.write_graph.proofs.Place.{place-here, place-next}

pub not-not : (b : Bool) → not b ≡ false → IsTrue b
not-not true e = refl
not-not false e = absurd (true≢false e)

pub among-none : (x : ℕ) → IsTrue (is_among x []) → ⊥
among-none x t = both_ways _ refl t

pub some-is : (x y : ℕ) → Some x ≡ Some y → x ≡ y
some-is x y e = cc

pub none-some : (x : ℕ) → None ≡ Some x → ⊥
none-some x e = cc

next : (i : ℕ) → suc i ≡ i + 1
next i = omega arith

taken-suc : (x y i : ℕ) (xs : List ℕ) → slice_get xs i ≡ Some y → IsTrue (is_among x (take (suc i) xs)) → IsTrue (is_among x (take i xs)) ⊎ (x ≡ y)
taken-suc x y i [] at t = absurd (none-some y at)
taken-suc x y zero (z ∷ zs) at t = elim (or_cases (x == z) (is_among x (take zero zs)) t) [
  | inl e ↦ inr (eqb-true x z e ∙ some-is z y at)
  | inr r ↦ absurd (among-none x r)
]
taken-suc x y (suc i) (z ∷ zs) at t = elim (or_cases (x == z) (is_among x (take (suc i) zs)) t) [
  | inl e ↦ inl (or_left (x == z) (is_among x (take i zs)) e)
  | inr r ↦ elim (taken-suc x y i zs at r) [ inl l ↦ inl (or_right (x == z) (is_among x (take i zs)) l) | inr e ↦ inr e ]
]

-- x is among the first i + 1 if it is among the first i, or the next
pub among-taken : (x y i : ℕ) (xs : List ℕ) → slice_get xs i ≡ Some y → IsTrue (is_among x (take (i + 1) xs)) → IsTrue (is_among x (take i xs)) ⊎ (x ≡ y)
among-taken x y i xs at t = taken-suc x y i xs at (subst (λ (n : ℕ). IsTrue (is_among x (take n xs))) (sym (next i)) t)

before-suc : (x i : ℕ) (xs : List ℕ) → IsTrue (is_among x (take i xs)) → IsTrue (is_among x (take (suc i) xs))
before-suc x zero xs t = absurd (among-none x t)
before-suc x (suc i) [] t = absurd (among-none x t)
before-suc x (suc i) (z ∷ zs) t = elim (or_cases (x == z) (is_among x (take i zs)) t) [
  | inl e ↦ or_left (x == z) (is_among x (take (suc i) zs)) e
  | inr r ↦ or_right (x == z) (is_among x (take (suc i) zs)) (before-suc x i zs r)
]

pub among-before : (x i : ℕ) (xs : List ℕ) → IsTrue (is_among x (take i xs)) → IsTrue (is_among x (take (i + 1) xs))
among-before x i xs t = subst (λ (n : ℕ). IsTrue (is_among x (take n xs))) (next i) (before-suc x i xs t)

next-suc : (x i : ℕ) (xs : List ℕ) → slice_get xs i ≡ Some x → IsTrue (is_among x (take (suc i) xs))
next-suc x i [] at = absurd (none-some x at)
next-suc x zero (z ∷ zs) at = or_left (x == z) (is_among x []) (eq-eqb x z (sym (some-is z x at)))
next-suc x (suc i) (z ∷ zs) at = or_right (x == z) (is_among x (take (suc i) zs)) (next-suc x i zs at)

pub among-next : (x i : ℕ) (xs : List ℕ) → slice_get xs i ≡ Some x → IsTrue (is_among x (take (i + 1) xs))
among-next x i xs at = subst (λ (n : ℕ). IsTrue (is_among x (take n xs))) (next i) (next-suc x i xs at)

pub get-index : (xs : List ℕ) (i : ℕ) → i < length xs → slice_get xs i ≡ Some (slice_index xs i)
get-index [] i lt = absurd (omega (arith, lt))
get-index (x ∷ xs) zero lt = refl
get-index (x ∷ xs) (suc i) lt = get-index xs i (omega (arith, lt))

-- while x was not met among the first i: its place is not before i, and it is i where x is next
pub record NotMet (x : ℕ) (xs : List ℕ) (i : ℕ) : Type 0 where
  pub none : (k : ℕ) → k < i → slice_get xs k ≡ Some x → ⊥

not-met-tail : (x y : ℕ) (xs : List ℕ) (i : ℕ) → NotMet x (y ∷ xs) (suc i) → NotMet x xs i
not-met-tail x y xs i not = record { none = λ k lt g. not.none (suc k) (omega (arith, lt)) g }

pub place-met : (x : ℕ) (xs : List ℕ) (i : ℕ) → NotMet x xs i → slice_get xs i ≡ Some x → place_in x xs ≡ i
place-met x [] i not at = absurd (none-some x at)
place-met x (y ∷ xs) zero not at = place-here x y xs (sym (some-is y x at))
place-met x (y ∷ xs) (suc i) not at =
    let ne : x ≡ y → ⊥ = λ e. not.none zero (omega arith) (ap (λ (k : ℕ). Some k) (sym e)) in
    place-next x y xs ne ∙ ap suc (place-met x xs i (not-met-tail x y xs i not) at)

pub not-met-all : (x : ℕ) (xs : List ℕ) (i : ℕ) → NotMet x xs i → length xs ≤ i → IsTrue (is_among x xs) → ⊥
not-met-all x [] i not le t = among-none x t
not-met-all x (y ∷ xs) zero not le t = absurd (omega (arith, le))
not-met-all x (y ∷ xs) (suc i) not le t = elim (or_cases (x == y) (is_among x xs) t) [
  | inl e ↦ not.none zero (omega arith) (ap (λ (k : ℕ). Some k) (sym (eqb-true x y e)))
  | inr r ↦ not-met-all x xs i (not-met-tail x y xs i not) (omega (arith, le)) r
]
