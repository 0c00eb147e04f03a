-- Where an LSN stands in a list, and what stands in a table that is longer by one.
use Rattle.std.proofs.Common.{◌≡◌, ◌∙◌, ap, sym, ℕ, zero, suc, ◌+◌, ◌<◌, ◌≤◌, List, [], ◌∷◌, ◌++◌, length, Some, refl, arith, inl, inr}
use Rattle.std.specs.Prelude.{IsTrue, IsFalse, ◌==◌, nat_eq, slice_get, slice_index, slice_index_or}
use Rattle.std.specs.List.{position_or_len}
use Rattle.std.proofs.lemmas.Bool.{cases_Bool, cases_eq, both_ways, or_left, or_right, or_cases, eqb-true, eq-eqb, cond-true, cond-false, false_from_ne_true}
use Rattle.std.proofs.lemmas.List.Recursion.{is_position_or_len}
use Rattle.oper_core.specs.State.{is_among}
use Rattle.number_lists.specs.Lists.{list_at}
use Rattle.write_graph.specs.Places.{place_in}

pub place-here : (x y : ℕ) (xs : List ℕ) → x ≡ y → place_in x (y ∷ xs) ≡ zero
place-here x y xs e = cond-true (x == y) zero (suc (place_in x xs)) (eq-eqb x y e)

pub place-next : (x y : ℕ) (xs : List ℕ) → (x ≡ y → ⊥) → place_in x (y ∷ xs) ≡ suc (place_in x xs)
place-next x y xs ne = cond-false (x == y) zero (suc (place_in x xs)) (false_from_ne_true _ (λ e. ne (eqb-true x y e)))

-- the first place is what a search by index finds
pub place-is : (x : ℕ) (xs : List ℕ) → place_in x xs ≡ position_or_len (nat_eq x) xs
place-is x xs = is_position_or_len (place_in x) (nat_eq x) refl (λ y ys. elim (cases_Bool (nat_eq x y)) [
  | inl e ↦ omega (arith, cond-true (x == y) zero (suc (place_in x ys)) e, cond-true (nat_eq x y) zero (1 + place_in x ys) e)
  | inr n ↦ omega (arith, cond-false (x == y) zero (suc (place_in x ys)) n, cond-false (nat_eq x y) zero (1 + place_in x ys) n)
]) xs

pub place-le : (x : ℕ) (xs : List ℕ) → place_in x xs ≤ length xs
place-le x [] = omega arith
place-le x (y ∷ xs) = elim (cases_eq x y) [
  | inl e ↦ omega (arith, place-here x y xs e)
  | inr ne ↦ omega (arith, place-next x y xs ne, place-le x xs)
]

-- x stands at its place
pub place-at : (x : ℕ) (xs : List ℕ) → place_in x xs < length xs → slice_get xs (place_in x xs) ≡ Some x
place-at x [] lt = absurd (omega (arith, lt))
place-at x (y ∷ xs) lt = elim (cases_eq x y) [
  | inl e ↦ ap (slice_get (y ∷ xs)) (place-here x y xs e) ∙ ap (λ (k : ℕ). Some k) (sym e)
  | inr ne ↦ ap (slice_get (y ∷ xs)) (place-next x y xs ne) ∙ place-at x xs (omega (arith, place-next x y xs ne, lt))
]

some-one : (x y : ℕ) → Some x ≡ Some y → x ≡ y
some-one x y e = cc

-- two numbers with one place are one
pub place-one : (x y : ℕ) (xs : List ℕ) → place_in x xs < length xs → place_in x xs ≡ place_in y xs → x ≡ y
place-one x y xs lt e = some-one x y (sym (place-at x xs lt) ∙ ap (slice_get xs) e ∙ place-at y xs (omega (arith, lt, e)))

pub place-among : (x : ℕ) (xs : List ℕ) → IsTrue (is_among x xs) → place_in x xs < length xs
place-among x [] t = absurd (both_ways _ refl t)
place-among x (y ∷ xs) t = elim (cases_eq x y) [
  | inl e ↦ omega (arith, place-here x y xs e)
  | inr ne ↦ elim (or_cases (x == y) (is_among x xs) t) [
    | inl e ↦ absurd (ne (eqb-true x y e))
    | inr more ↦ omega (arith, place-next x y xs ne, place-among x xs more)
  ]
]

or-left-eq : (x y : ℕ) (xs : List ℕ) → x ≡ y → IsTrue (is_among x (y ∷ xs))
or-left-eq x y xs e = or_left (x == y) (is_among x xs) (eq-eqb x y e)

or-right-is : (x y : ℕ) (xs : List ℕ) → IsTrue (is_among x xs) → IsTrue (is_among x (y ∷ xs))
or-right-is x y xs t = or_right (x == y) (is_among x xs) t

-- where x is not there, its place is the length
pub place-none : (x : ℕ) (xs : List ℕ) → IsFalse (is_among x xs) → place_in x xs ≡ length xs
place-none x [] f = refl
place-none x (y ∷ xs) f = elim (cases_eq x y) [
  | inl e ↦ absurd (both_ways _ f (or-left-eq x y xs e))
  | inr ne ↦ omega (arith, place-next x y xs ne, place-none x xs (elim (cases_Bool (is_among x xs)) [ inl t ↦ absurd (both_ways _ f (or-right-is x y xs t)) | inr n ↦ n ]))
]

pub place-left : (x : ℕ) (xs ys : List ℕ) → place_in x xs < length xs → place_in x (xs ++ ys) ≡ place_in x xs
place-left x [] ys lt = absurd (omega (arith, lt))
place-left x (y ∷ xs) ys lt = elim (cases_eq x y) [
  | inl e ↦ place-here x y (xs ++ ys) e ∙ sym (place-here x y xs e)
  | inr ne ↦ place-next x y (xs ++ ys) ne ∙ ap suc (place-left x xs ys (omega (arith, place-next x y xs ne, lt))) ∙ sym (place-next x y xs ne)
]

-- after the list
pub place-right : (x : ℕ) (xs ys : List ℕ) → length xs ≤ place_in x xs → place_in x (xs ++ ys) ≡ length xs + place_in x ys
place-right x [] ys le = omega arith
place-right x (y ∷ xs) ys le = elim (cases_eq x y) [
  | inl e ↦ absurd (omega (arith, place-here x y xs e, le))
  | inr ne ↦ omega (arith, place-next x y (xs ++ ys) ne, place-right x xs ys (omega (arith, place-next x y xs ne, le)))
]

pub read-left : {X : Type 0} (xs ys : List X) (i : ℕ) (d : X) → i < length xs → slice_index_or (xs ++ ys) i d ≡ slice_index_or xs i d
read-left [] ys i d lt = absurd (omega (arith, lt))
read-left (x ∷ xs) ys zero d lt = refl
read-left (x ∷ xs) ys (suc i) d lt = read-left xs ys i d (omega (arith, lt))

pub read-past : {X : Type 0} (xs : List X) (i : ℕ) (d : X) → length xs ≤ i → slice_index_or xs i d ≡ d
read-past [] i d le = refl
read-past (x ∷ xs) zero d le = absurd (omega (arith, le))
read-past (x ∷ xs) (suc i) d le = read-past xs i d (omega (arith, le))

-- a table that is longer by what follows it reads the same
pub read-more : {X : Type 0} (xs : List X) (i : ℕ) (d : X) → slice_index_or (xs ++ d ∷ []) i d ≡ slice_index_or xs i d
read-more [] zero d = refl
read-more [] (suc i) d = refl
read-more (x ∷ xs) zero d = refl
read-more (x ∷ xs) (suc i) d = read-more xs i d

pub list-past : (ls : List (List ℕ)) (j : ℕ) → length ls ≤ j → list_at ls j ≡ []
list-past [] j le = refl
list-past (xs ∷ ls) zero le = absurd (omega (arith, le))
list-past (xs ∷ ls) (suc j) le = list-past ls j (omega (arith, le))

pub index-left : (xs : List ℕ) (x i : ℕ) → i < length xs → slice_index (xs ++ x ∷ []) i ≡ slice_index xs i
index-left [] x i lt = absurd (omega (arith, lt))
index-left (y ∷ ys) x zero lt = refl
index-left (y ∷ ys) x (suc i) lt = index-left ys x i (omega (arith, lt))

pub index-last : (xs : List ℕ) (x : ℕ) → slice_index (xs ++ x ∷ []) (length xs) ≡ x
index-last [] x = refl
index-last (y ∷ ys) x = index-last ys x
