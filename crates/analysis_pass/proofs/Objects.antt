-- What stands beside an object in a list whose objects rise.
use Rattle.std.proofs.Common.{◌≡◌, ◌≢◌, ℕ, zero, suc, ◌<◌, ◌≤◌, ◌+◌, nat_lt, Bool, true, false, IsTrue, List, [], ◌∷◌, length, get_or, map, refl, sym, ap, inl, inr, arith, IfOk, IfErr, Result, Ok, Err}
use Rattle.std.specs.List.{IsAllAdjacentAnswer}
use Rattle.std.specs.List.Sorted.{IsStrictlyIncreasing, IsSearchInRange, IsBinarySearchResult, IsNonDecreasingBy}
use Rattle.std.specs.Ordering.{nat_cmp, ordering_index}
use Rattle.std.proofs.lemmas.Bool.Decides.{nat_tests, eqb_tells}
use Rattle.std.proofs.lemmas.Bool.{cases_lt, ltb-true, both_ways}
use Rattle.std.proofs.lemmas.Cmp.{ranked}
use Rattle.std.proofs.lemmas.List.{get_or-map, length-map}
use Rattle.std.proofs.lemmas.List.Kept.{AllPairs-from_increasing}
use Rattle.std.proofs.lemmas.List.Sorted.{IsNonDecreasingBy-from_default}
use Rattle.dirty_page_table.specs.RedoStarts.{start_or}

-- the object at a place
abbrev object_at : List (ℕ × ℕ) → ℕ → ℕ
object_at starts i = (get_or starts i (0, 0)).0

-- the first pair of an object gives its start
start_present : (other : ℕ) (starts : List (ℕ × ℕ)) (x i : ℕ) → i < length starts → object_at starts i ≡ x → ((j : ℕ) → j < i → object_at starts j ≢ x)
    → start_or other starts x ≡ (get_or starts i (0, 0)).1
start_present other [] x i within here first = absurd (omega (arith, within))
start_present other (s ∷ starts) x zero within here first = elim (eqb_tells x s.0) [
  | inl same ↦ rw same.0 refl
  | inr apart ↦ absurd (apart.1 (sym here))
]
start_present other (s ∷ starts) x (suc i) within here first = elim (eqb_tells x s.0) [
  | inl same ↦ absurd (first 0 (omega arith) (sym same.1))
  | inr apart ↦ rw apart.0 (start_present other starts x i (omega (arith, within)) here (λ j less. first (suc j) (omega (arith, less))))
]

-- without a pair of the object it is the other number
start_absent : (other : ℕ) (starts : List (ℕ × ℕ)) (x : ℕ) → ((j : ℕ) → j < length starts → object_at starts j ≢ x) → start_or other starts x ≡ other
start_absent other [] x none = refl
start_absent other (s ∷ starts) x none = elim (eqb_tells x s.0) [
  | inl same ↦ absurd (none 0 (omega arith) (sym same.1))
  | inr apart ↦ rw apart.0 (start_absent other starts x (λ j less. none (suc j) (omega (arith, less))))
]

-- where each object is below the next one, they rise
pub rise_if_told : (starts : List (ℕ × ℕ)) (told : Bool) → IsAllAdjacentAnswer (λ s t b. b ≡ nat_lt s.0 t.0) starts told → IsTrue told → IsStrictlyIncreasing (map (λ s. s.0) starts)
rise_if_told starts false adjacent is = absurd (both_ways false refl is)
rise_if_told starts true adjacent is = λ k less.
    let long = length-map starts (λ (s : ℕ × ℕ). s.0) in
    omega (
      arith,
      ltb-true (object_at starts k) (object_at starts (k + 1)) (sym (adjacent k (0, 0) (omega (arith, less, long)))),
      get_or-map (λ (s : ℕ × ℕ). s.0) starts k (0, 0) 0 (omega (arith, less, long)),
      get_or-map (λ (s : ℕ × ℕ). s.0) starts (k + 1) (0, 0) 0 (omega (arith, less, long)),
    )

module _ (starts : List (ℕ × ℕ)) (rising : IsStrictlyIncreasing (map (λ s. s.0) starts)) where
  objects_rise : (i j : ℕ) → i < j → j < length starts → object_at starts i < object_at starts j
  objects_rise i j less within =
      let long = length-map starts (λ (s : ℕ × ℕ). s.0) in
      omega (
        arith,
        AllPairs-from_increasing (map (λ (s : ℕ × ℕ). s.0) starts) rising i j 0 less (omega (arith, within, long)),
        get_or-map (λ (s : ℕ × ℕ). s.0) starts i (0, 0) 0 (omega (arith, less, within)),
        get_or-map (λ (s : ℕ × ℕ). s.0) starts j (0, 0) 0 within,
      )

  -- the start beside an object is its own
  pub start_at : (other i : ℕ) → i < length starts → start_or other starts (object_at starts i) ≡ (get_or starts i (0, 0)).1
  start_at other i within = start_present other starts (object_at starts i) i within refl (λ j less same. absurd (omega (arith, same, objects_rise j i less within)))

  module _ (x : ℕ) where
    comparisons_rise : IsNonDecreasingBy (λ s. ordering_index (nat_cmp s.0 x)) starts
    comparisons_rise = IsNonDecreasingBy-from_default (λ (s : ℕ × ℕ). ordering_index (nat_cmp s.0 x)) starts (0, 0) (λ i j le within.
        let up : object_at starts i ≤ object_at starts j = grind (arith, objects_rise i j, λ (same : i ≡ j). ap (object_at starts) same) in
        grind (arith, nat_tests))

    -- a search for the object ends at its pair, or finds that there is none
    pub searched : (other : ℕ) (r : Result ℕ ℕ) → IsSearchInRange r (length starts) → IsBinarySearchResult (λ s. nat_cmp s.0 x) starts r
        → IfOk r (λ i. start_or other starts x ≡ (get_or starts i (0, 0)).1) × IfErr r (λ i. start_or other starts x ≡ other)
    searched other (Ok i) within equal =
        let here : object_at starts i ≡ x = ranked _ x _ (sym (equal (0, 0))) in
        (start_present other starts x i within here (λ j less same. absurd (omega (arith, same, here, objects_rise j i less within))), tt)
    searched other (Err i) within parted = (
      tt,
      start_absent other starts x (λ j less same. elim (cases_lt j i) [
        | inl before ↦ absurd (omega (arith, same, ranked _ x _ (sym ((parted comparisons_rise).0 j (0, 0) (omega arith) before))))
        | inr behind ↦ absurd (omega (arith, same, ranked _ x _ (sym ((parted comparisons_rise).1 j (0, 0) behind less))))
      ]),
    )
