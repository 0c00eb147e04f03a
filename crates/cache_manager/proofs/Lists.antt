-- Objects of a list: apart from each other, in a filtered list, below a bound.
use Rattle.std.proofs.Common.{◌≡◌, ◌∙◌, sym, subst, ap, ℕ, zero, suc, ◌+◌, ◌<◌, ◌≤◌, Bool, false, List, [], ◌∷◌, length, refl, arith, inl, inr, Option, None, Some, drop, drop-cons, slice_index}
use Rattle.std.specs.Prelude.{⊤, ◌==◌, not, IsTrue, IsFalse, nat_lt, nat_le}
use Rattle.std.specs.List.{filter, list_any}
use Rattle.std.proofs.lemmas.Bool.{cases_Bool, cases_eq, both_ways, or_cases, or_left, or_parts, or_right, eq-eqb, ne_eqb, eqb-true, not-true, not_from_false, false_from_ne_true, cond-true, cond-false, leb-true, le-leb}
use Rattle.oper_core.specs.State.{is_among}
use Rattle.identity_writes.specs.Plan.{but_kept}
use Rattle.cache_manager.specs.InstallCourses.{counted, longest, longest_of, not_copied, but_longest}

-- each object of the list stands in it once
abbrev pub AreApart : List ℕ → Type 0
AreApart [] = ⊤
AreApart (x ∷ xs) = IsFalse (is_among x xs) × AreApart xs

pub among_filter : (p : ℕ → Bool) (xs : List ℕ) (y : ℕ) → IsTrue (is_among y (filter p xs)) → IsTrue (is_among y xs) × IsTrue (p y)
among_filter p [] y there = absurd (both_ways _ refl there)
among_filter p (x ∷ xs) y there = elim (cases_Bool (p x)) [
  | inl held ↦ elim (or_cases (y == x) (is_among y (filter p xs)) (ap (is_among y) (sym (cond-true (p x) (x ∷ filter p xs) (filter p xs) held)) ∙ there)) [
    | inl here ↦ (or_left (y == x) (is_among y xs) here, subst (λ (z : ℕ). IsTrue (p z)) (sym (eqb-true y x here)) held)
    | inr later ↦ let r = among_filter p xs y later in (or_right (y == x) (is_among y xs) r.0, r.1)
  ]
  | inr left ↦
      let r = among_filter p xs y (ap (is_among y) (sym (cond-false (p x) (x ∷ filter p xs) (filter p xs) left)) ∙ there) in
      (or_right (y == x) (is_among y xs) r.0, r.1)
]

pub filter_among : (p : ℕ → Bool) (xs : List ℕ) (y : ℕ) → IsTrue (is_among y xs) → IsTrue (p y) → IsTrue (is_among y (filter p xs))
filter_among p [] y there held = there
filter_among p (x ∷ xs) y there held = elim (or_cases (y == x) (is_among y xs) there) [
  | inl here ↦ ap (is_among y) (cond-true (p x) (x ∷ filter p xs) (filter p xs) (subst (λ (z : ℕ). IsTrue (p z)) (eqb-true y x here) held)) ∙ or_left (y == x) (is_among y (filter p xs)) here
  | inr later ↦
      let r = filter_among p xs y later held in
      elim (cases_Bool (p x)) [
        | inl also ↦ ap (is_among y) (cond-true (p x) (x ∷ filter p xs) (filter p xs) also) ∙ or_right (y == x) (is_among y (filter p xs)) r
        | inr left ↦ ap (is_among y) (cond-false (p x) (x ∷ filter p xs) (filter p xs) left) ∙ r
      ]
]

pub apart_filter : (p : ℕ → Bool) (xs : List ℕ) → AreApart xs → AreApart (filter p xs)
apart_filter p [] apart = tt
apart_filter p (x ∷ xs) apart = elim (cases_Bool (p x)) [
  | inl held ↦ subst AreApart (sym (cond-true (p x) (x ∷ filter p xs) (filter p xs) held))
      (false_from_ne_true _ (λ there. both_ways _ apart.0 (among_filter p xs x there).0), apart_filter p xs apart.1)
  | inr left ↦ subst AreApart (sym (cond-false (p x) (x ∷ filter p xs) (filter p xs) left)) (apart_filter p xs apart.1)
]

pub among_counted : (k n y : ℕ) → IsTrue (is_among y (counted k n)) → (k ≤ y) × (y < k + n)
among_counted k zero y there = absurd (both_ways _ refl there)
among_counted k (suc n) y there = elim (or_cases (y == k) (is_among y (counted (suc k) n)) there) [
  | inl here ↦ let e = eqb-true y k here in (omega (arith, e), omega (arith, e))
  | inr later ↦ let r = among_counted (suc k) n y later in (omega (arith, r.0), omega (arith, r.1))
]

pub counted_among : (k n y : ℕ) → k ≤ y → y < k + n → IsTrue (is_among y (counted k n))
counted_among k zero y low high = absurd (omega (arith, low, high))
counted_among k (suc n) y low high = elim (cases_eq y k) [
  | inl here ↦ or_left (y == k) (is_among y (counted (suc k) n)) (eq-eqb y k here)
  | inr other ↦ or_right (y == k) (is_among y (counted (suc k) n)) (counted_among (suc k) n y (omega (arith, low, other)) (omega (arith, high)))
]

pub apart_counted : (k n : ℕ) → AreApart (counted k n)
apart_counted k zero = tt
apart_counted k (suc n) = (false_from_ne_true _ (λ there. let r = among_counted (suc k) n k there in absurd (omega (arith, r.0))), apart_counted (suc k) n)

-- of two objects or more another one is there too
pub other_among : (x y z : ℕ) (xs : List ℕ) → AreApart (x ∷ y ∷ xs) → (u : ℕ) × IsTrue (is_among u (x ∷ y ∷ xs)) × (u ≡ z → ⊥)
other_among x y z xs apart = elim (cases_eq x z) [
  | inl here ↦ (
    y,
    or_right (y == x) (is_among y (y ∷ xs)) (or_left (y == y) (is_among y xs) (eq-eqb y y refl)),
    λ same. both_ways _ apart.0 (or_left (x == y) (is_among x xs) (eq-eqb x y (here ∙ sym same))),
  )
  | inr other ↦ (x, or_left (x == x) (is_among x (y ∷ xs)) (eq-eqb x x refl), other)
]

pub longest_among : (lengths : ℕ → ℕ) (x : ℕ) (xs : List ℕ) → IsTrue (is_among (longest lengths x xs) (x ∷ xs))
longest_among lengths x [] = or_left (x == x) false (eq-eqb x x refl)
longest_among lengths x (y ∷ xs) = elim (cases_Bool (nat_lt (lengths x) (lengths y))) [
  | inl longer ↦
      let e : longest lengths x (y ∷ xs) ≡ longest lengths y xs = ap (λ (z : ℕ). longest lengths z xs) (cond-true (nat_lt (lengths x) (lengths y)) y x longer) in
      subst (λ (z : ℕ). IsTrue (is_among z (x ∷ y ∷ xs))) (sym e) (or_right (longest lengths y xs == x) (is_among (longest lengths y xs) (y ∷ xs)) (longest_among lengths y xs))
  | inr not_longer ↦
      let e : longest lengths x (y ∷ xs) ≡ longest lengths x xs = ap (λ (z : ℕ). longest lengths z xs) (cond-false (nat_lt (lengths x) (lengths y)) y x not_longer) in
      subst (λ (z : ℕ). IsTrue (is_among z (x ∷ y ∷ xs))) (sym e) (elim (or_cases (longest lengths x xs == x) (is_among (longest lengths x xs) xs) (longest_among lengths x xs)) [
        | inl here ↦ or_left (longest lengths x xs == x) (is_among (longest lengths x xs) (y ∷ xs)) here
        | inr later ↦ or_right (longest lengths x xs == x) (is_among (longest lengths x xs) (y ∷ xs)) (or_right (longest lengths x xs == y) (is_among (longest lengths x xs) xs) later)
      ])
]

pub longest_of_among : (lengths : ℕ → ℕ) (xs : List ℕ) (k : ℕ) → longest_of lengths xs ≡ Some k → IsTrue (is_among k xs)
longest_of_among lengths [] k is = cc
longest_of_among lengths (x ∷ xs) k is = let e : Some (longest lengths x xs) ≡ Some k = is in subst (λ (z : ℕ). IsTrue (is_among z (x ∷ xs))) (cc e) (longest_among lengths x xs)

-- what is left of objects without one that is kept, if one is
pub kept_among : (o : Option ℕ) (xs : List ℕ) (y : ℕ) → IsTrue (is_among y (but_kept o xs)) → IsTrue (is_among y xs)
kept_among None xs y there = there
kept_among (Some k) xs y there = (among_filter (λ z. not (z == k)) xs y there).0

kept_apart : (o : Option ℕ) (xs : List ℕ) → AreApart xs → AreApart (but_kept o xs)
kept_apart None xs apart = apart
kept_apart (Some k) xs apart = apart_filter (λ z. not (z == k)) xs apart

left_among : (o : Option ℕ) (xs : List ℕ) (y : ℕ) → IsTrue (is_among y xs) → ((k : ℕ) → o ≡ Some k → y ≡ k → ⊥) → IsTrue (is_among y (but_kept o xs))
left_among None xs y there other = there
left_among (Some k) xs y there other = filter_among (λ z. not (z == k)) xs y there (not_from_false _ (ne_eqb y k (other k refl)))

pub but_longest_among : (copied : ℕ) (lengths : ℕ → ℕ) (xs : List ℕ) (y : ℕ) → IsTrue (is_among y (but_longest copied lengths xs)) → IsTrue (is_among y xs)
but_longest_among copied lengths xs y there = kept_among (longest_of lengths (not_copied copied xs)) xs y there

pub but_longest_apart : (copied : ℕ) (lengths : ℕ → ℕ) (xs : List ℕ) → AreApart xs → AreApart (but_longest copied lengths xs)
but_longest_apart copied lengths xs apart = kept_apart (longest_of lengths (not_copied copied xs)) xs apart

pub some_among : (u : ℕ) (xs : List ℕ) → IsTrue (is_among u xs) → 1 ≤ length xs
some_among u [] there = absurd (both_ways _ refl there)
some_among u (x ∷ xs) there = omega arith

-- a copied object is not kept
pub copied_left : (copied : ℕ) (lengths : ℕ → ℕ) (xs : List ℕ) (y : ℕ) → IsTrue (is_among y xs) → y < copied → IsTrue (is_among y (but_longest copied lengths xs))
copied_left copied lengths xs y there low = left_among (longest_of lengths (not_copied copied xs)) xs y there (λ k kept same.
    let held = among_filter (λ x. nat_le copied x) xs k (longest_of_among lengths (not_copied copied xs) k kept) in
    absurd (omega (arith, low, same, leb-true copied k held.1)))

-- of two or more at least one is logged
pub but_longest_some : (copied : ℕ) (lengths : ℕ → ℕ) (x y : ℕ) (xs : List ℕ) → AreApart (x ∷ y ∷ xs) → 1 ≤ length (but_longest copied lengths (x ∷ y ∷ xs))
but_longest_some copied lengths x y xs apart = kept (longest_of lengths (not_copied copied (x ∷ y ∷ xs)))
  where
    kept : (o : Option ℕ) → 1 ≤ length (but_kept o (x ∷ y ∷ xs))
    kept None = omega arith
    kept (Some k) =
        let u = other_among x y k xs apart in
        some_among u.0 (but_kept (Some k) (x ∷ y ∷ xs)) (filter_among (λ z. not (z == k)) (x ∷ y ∷ xs) u.0 u.1 (not_from_false _ (ne_eqb u.0 k u.2)))

-- and so it is where one is copied
pub copied_some : (copied : ℕ) (lengths : ℕ → ℕ) (xs : List ℕ) (y : ℕ) → IsTrue (is_among y xs) → y < copied → 1 ≤ length (but_longest copied lengths xs)
copied_some copied lengths xs y there low = some_among y (but_longest copied lengths xs) (copied_left copied lengths xs y there low)

-- where nothing is copied one of the objects is kept
none_copied : (xs : List ℕ) → not_copied 0 xs ≡ xs
none_copied [] = refl
none_copied (x ∷ xs) = cond-true (nat_le 0 x) (x ∷ not_copied 0 xs) (not_copied 0 xs) (le-leb 0 x (omega arith)) ∙ ap (λ (l : List ℕ). x ∷ l) (none_copied xs)

pub one_kept : (copied : ℕ) (lengths : ℕ → ℕ) (xs : List ℕ) → copied ≡ 0 → 1 ≤ length xs → (x : ℕ) × IsTrue (is_among x xs) × IsFalse (is_among x (but_longest copied lengths xs))
one_kept copied lengths xs none some =
    let whole : longest_of lengths (not_copied copied xs) ≡ longest_of lengths xs = ap (λ (c : ℕ). longest_of lengths (not_copied c xs)) none ∙ ap (longest_of lengths) (none_copied xs) in
    subst (λ (o : Option ℕ). (x : ℕ) × IsTrue (is_among x xs) × IsFalse (is_among x (but_kept o xs))) (sym whole) (one xs some)
  where
    one : (ys : List ℕ) → 1 ≤ length ys → (x : ℕ) × IsTrue (is_among x ys) × IsFalse (is_among x (but_kept (longest_of lengths ys) ys))
    one [] some = absurd (omega (arith, some))
    one (y ∷ ys) some =
        let keep = longest lengths y ys in (
          keep,
          longest_among lengths y ys,
          false_from_ne_true _ (λ there. both_ways _ (not-true _ (among_filter (λ z. not (z == keep)) (y ∷ ys) keep there).1) (eq-eqb keep keep refl)),
        )

-- of objects none of which passes
pub none_passes : (p : ℕ → Bool) (objects : List ℕ) → IsFalse (list_any p objects) → (x : ℕ) → IsTrue (is_among x objects) → IsFalse (p x)
none_passes p [] none x there = absurd (both_ways _ refl there)
none_passes p (a ∷ objects) none x there =
    let u = or_parts (p a) (list_any p objects) none in
    elim (or_cases (x == a) (is_among x objects) there) [
      | inl here ↦ subst (λ (z : ℕ). IsFalse (p z)) (sym (eqb-true x a here)) u.0
      | inr later ↦ none_passes p objects u.1 x later
    ]

-- one of the objects is next
pub first_left : (xs : List ℕ) (i : ℕ) → i < length xs → drop i xs ≡ slice_index xs i ∷ drop (i + 1) xs
first_left xs i there = let next : suc i ≡ i + 1 = omega arith in drop-cons xs i 0 there ∙ ap (λ (k : ℕ). slice_index xs i ∷ drop k xs) next
