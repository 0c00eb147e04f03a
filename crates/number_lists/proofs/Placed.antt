-- Numbers at their places.
use Rattle.std.proofs.Common.{◌≡◌, ◌≢◌, ◌∙◌, ap, sym, subst, ℕ, zero, suc, ◌<◌, ◌≤◌, ◌⊎◌, false, List, [], ◌∷◌, ◌++◌, length, length-append, append-nil, refl, arith, inl, inr}
use Rattle.std.specs.Prelude.{IsTrue, IsFalse, ◌==◌, ◌↔◌, nat_eq, slice_index, slice_set}
use Rattle.std.specs.List.{IsDistinct}
use Rattle.std.proofs.lemmas.Bool.{cases_lt, cases_Bool, both_ways, or_left, or_right, or_cases, eqb-true, eq-eqb, false_from_ne_true}
use Rattle.std.proofs.lemmas.List.{get_or-set_same, get_or-set_other, length-set}
use Rattle.std.proofs.lemmas.Map.Keys.{IsDistinct-push}
use Rattle.std.proofs.lemmas.Cmp.{nat_eq_equiv}
use Rattle.std.proofs.lemmas.Map.Steps.{length-le_from_distinct_below}
use Rattle.oper_core.specs.State.{is_among}
use Rattle.number_lists.specs.Members.{Members, ArePlaced, IsWith}

-- what is among the numbers stands at a place, and the other way round
pub among-place : (n : ℕ) (xs : List ℕ) → IsTrue (is_among n xs) → (i : ℕ) × (i < length xs) × (slice_index xs i ≡ n)
among-place n [] there = absurd (both_ways _ refl there)
among-place n (x ∷ xs) there = elim (or_cases (n == x) (is_among n xs) there) [
  | inl e ↦ (zero, omega arith, sym (eqb-true n x e))
  | inr r ↦ let p = among-place n xs r in (suc p.0, omega (arith, p.1), p.2)
]

pub place-among : (xs : List ℕ) (i : ℕ) → i < length xs → IsTrue (is_among (slice_index xs i) xs)
place-among [] i lt = absurd (omega arith)
place-among (x ∷ xs) zero lt = or_left (x == x) _ (eq-eqb x x refl)
place-among (x ∷ xs) (suc i) lt = or_right (slice_index xs i == x) _ (place-among xs i (omega arith))

pub told-there : (members place : List ℕ) (n at : ℕ) → ArePlaced members place → at ≡ slice_index place n → at < length members → (slice_index members at == n) ≡ is_among n members
told-there members place n at are e lt = elim (cases_Bool (slice_index members at == n)) [
  | inl same ↦ same ∙ sym (subst (λ (k : ℕ). IsTrue (is_among k members)) (eqb-true (slice_index members at) n same) (place-among members at lt))
  | inr other ↦ other ∙ sym (false_from_ne_true _ (λ there.
      let p = among-place n members there in
      let same : at ≡ p.0 = e ∙ ap (λ (k : ℕ). slice_index place k) (sym p.2) ∙ are.at p.0 p.1 in
      both_ways _ other (eq-eqb (slice_index members at) n (ap (λ (k : ℕ). slice_index members k) same ∙ p.2))))
]

pub told-past : (members place : List ℕ) (n at : ℕ) → ArePlaced members place → at ≡ slice_index place n → length members ≤ at → false ≡ is_among n members
told-past members place n at are e le = sym (false_from_ne_true _ (λ there.
    let p = among-place n members there in
    let same : at ≡ p.0 = e ∙ ap (λ (k : ℕ). slice_index place k) (sym p.2) ∙ are.at p.0 p.1 in
    omega (arith, same, p.1, le)))

read-left : (xs : List ℕ) (i v : ℕ) → i < length xs → slice_index (xs ++ v ∷ []) i ≡ slice_index xs i
read-left [] i v lt = absurd (omega arith)
read-left (x ∷ xs) zero v lt = refl
read-left (x ∷ xs) (suc i) v lt = read-left xs i v (omega arith)

pub read-last : (xs : List ℕ) (v : ℕ) → slice_index (xs ++ v ∷ []) (length xs) ≡ v
read-last [] v = refl
read-last (x ∷ xs) v = read-last xs v

-- what stands at a place of the longer list
parts : (xs : List ℕ) (v i : ℕ) → i < length (xs ++ v ∷ []) → ((i < length xs) × (slice_index (xs ++ v ∷ []) i ≡ slice_index xs i)) ⊎ ((i ≡ length xs) × (slice_index (xs ++ v ∷ []) i ≡ v))
parts xs v i lt = elim (cases_lt i (length xs)) [
  | inl low ↦ inl (low, read-left xs i v low)
  | inr ge ↦
      let e : i ≡ length xs = omega (arith, length-append xs (v ∷ []), lt, ge) in
      inr (e, ap (λ (k : ℕ). slice_index (xs ++ v ∷ []) k) e ∙ read-last xs v)
]

pub distinct-push : (xs : List ℕ) (n : ℕ) → IsFalse (is_among n xs) → IsDistinct nat_eq xs → IsDistinct nat_eq (xs ++ n ∷ [])
distinct-push xs n out are = IsDistinct-push nat_eq_equiv xs n are out

-- one number more, which was not there
pub placed-more : (members place : List ℕ) (n : ℕ) → n < length place → IsFalse (is_among n members) → ArePlaced members place → ArePlaced (members ++ n ∷ []) (slice_set place n (length members))
placed-more members place n lt out are =
    let other : (i : ℕ) → i < length members → slice_index members i ≢ n = λ i low e. both_ways _ out (subst (λ (k : ℕ). IsTrue (is_among k members)) e (place-among members i low)) in
    record {
      below = λ i low. elim (parts members n i low) [
        | inl p ↦ omega (arith, p.1, are.below i p.0, length-set place n (length members))
        | inr p ↦ omega (arith, p.1, lt, length-set place n (length members))
      ];
      at = λ i low. elim (parts members n i low) [
        | inl p ↦ ap (λ (k : ℕ). slice_index (slice_set place n (length members)) k) p.1 ∙ get_or-set_other place n (slice_index members i) (length members) zero (other i p.0) ∙ are.at i p.0
        | inr p ↦ ap (λ (k : ℕ). slice_index (slice_set place n (length members)) k) p.1 ∙ get_or-set_same place n (length members) zero lt ∙ sym p.0
      ];
      distinct = distinct-push members n out are.distinct;
    }

-- there is room for one number more
pub few-more : (members place : List ℕ) (n : ℕ) → n < length place → IsFalse (is_among n members) → ArePlaced members place → length members < length place
few-more members place n lt out are =
    let all = length-le_from_distinct_below (members ++ n ∷ []) (length place) (distinct-push members n out are.distinct)
    (λ q there. let p = among-place q (members ++ n ∷ []) there in elim (parts members n p.0 p.1) [
      | inl low ↦ omega (arith, are.below p.0 low.0, low.1, p.2)
      | inr last ↦ omega (arith, last.1, p.2, lt)
    ]) in
    omega (arith, all, length-append members (n ∷ []))

-- more places make no difference, where each number reads as before
pub placed-same : (members place more : List ℕ) → ((i : ℕ) → slice_index more i ≡ slice_index place i) → length place ≤ length more → ArePlaced members place → ArePlaced members more
placed-same members place more each le are = record {
  below = λ i lt. omega (arith, are.below i lt, le);
  at = λ i lt. each (slice_index members i) ∙ are.at i lt;
  distinct = are.distinct;
}

-- a number without a place is no member
pub past-none : (members place : List ℕ) (n : ℕ) → ArePlaced members place → length place ≤ n → false ≡ is_among n members
past-none members place n are past = sym (false_from_ne_true _ (λ there.
    let p = among-place n members there in
    omega (arith, are.below p.0 p.1, p.2, past)))

-- there are no more members than numbers
pub few-all : (members place : List ℕ) → ArePlaced members place → length members ≤ length place
few-all members place are = length-le_from_distinct_below members (length place) are.distinct (λ q there. let p = among-place q members there in omega (arith, are.below p.0 p.1, p.2))

pub placed-none : (place : List ℕ) → ArePlaced [] place
unfolding IsDistinct
placed-none place = record { below = λ i low. absurd (omega arith); at = λ i low. absurd (omega arith); distinct = tt }

pub among-more : (k n : ℕ) (xs : List ℕ) → IsTrue (is_among k (xs ++ n ∷ [])) ↔ (IsTrue (is_among k xs) ⊎ (k ≡ n))
among-more k n [] = ((λ t. elim (or_cases (k == n) false t) [ inl e ↦ inr (eqb-true k n e) | inr r ↦ absurd (both_ways _ refl r) ]), (λ s. elim s [ inl r ↦ absurd (both_ways _ refl r) | inr e ↦ or_left (k == n) false (eq-eqb k n e) ]))
among-more k n (x ∷ xs) =
    let on = among-more k n xs in (
      (λ t. elim (or_cases (k == x) (is_among k (xs ++ n ∷ [])) t) [
        | inl e ↦ inl (or_left (k == x) (is_among k xs) e)
        | inr r ↦ elim (on.0 r) [ inl r ↦ inl (or_right (k == x) (is_among k xs) r) | inr e ↦ inr e ]
      ]),
      (λ s. elim s [
        | inl t ↦ elim (or_cases (k == x) (is_among k xs) t) [ inl e ↦ or_left (k == x) (is_among k (xs ++ n ∷ [])) e | inr r ↦ or_right (k == x) (is_among k (xs ++ n ∷ [])) (on.1 (inl r)) ]
        | inr e ↦ or_right (k == x) (is_among k (xs ++ n ∷ [])) (on.1 (inr e))
      ]),
    )

pub with-new : (old new : Members) (n : ℕ) → new.members ≡ old.members ++ n ∷ [] → new.end ≡ old.end → old.room ≤ new.room → IsWith old n new
with-new old new n e end room = record {
  there = λ k. subst (λ (xs : List ℕ). IsTrue (is_among k xs) ↔ (IsTrue (is_among k old.members) ⊎ (k ≡ n))) (sym e) (among-more k n old.members);
  kept = (n ∷ [], e);
  end = end;
  room = room;
}

pub with-old : (old : Members) (n : ℕ) → IsTrue (is_among n old.members) → IsWith old n old
with-old old n there = record {
  there = λ k. ((λ t. inl t), (λ s. elim s [ inl t ↦ t | inr e ↦ subst (λ (j : ℕ). IsTrue (is_among j old.members)) (sym e) there ]));
  kept = ([], sym (append-nil old.members));
  end = refl;
  room = omega arith;
}
