-- The least free object, from the next empty value.
use Rattle.std.proofs.Common.{◌≡◌, ◌≢◌, ◌≤◌, ◌<◌, refl, sym, ap, ◌∙◌, ℕ, zero, suc, ◌+◌, ◌-◌, true, false, List, [], ◌∷◌, length, arith}
use Rattle.std.proofs.lemmas.Bool.{cond-true, cond-false}
use Rattle.oper_core.specs.State.{State}
use Rattle.running_store.specs.Laid.Lengths.{IsFirstEmpty}
use Rattle.call_plans.specs.Free.{is_empty, free_from}
use Rattle.range_calls.specs.Free.{free_between}

full_is : (v : List ℕ) → length v ≢ 0 → is_empty v ≡ false
full_is [] full = absurd (full refl)
full_is (b ∷ v) full = refl

empty_is : (v : List ℕ) → length v ≡ 0 → is_empty v ≡ true
empty_is [] none = refl
empty_is (b ∷ v) none = absurd (omega (arith, none))

module _ (s : State) where
  passes : (x n : ℕ) → length (s x) ≢ 0 → free_from s x (suc n) ≡ free_from s (suc x) n
  passes x n full = cond-false (is_empty (s x)) (x ∷ free_from s (suc x) n) (free_from s (suc x) n) (full_is (s x) full)

  comes_first : (x n : ℕ) → length (s x) ≡ 0 → free_from s x (suc n) ≡ x ∷ free_from s (suc x) n
  comes_first x n none = cond-true (is_empty (s x)) (x ∷ free_from s (suc x) n) (free_from s (suc x) n) (empty_is (s x) none)

  none_of : (n x : ℕ) → ((y : ℕ) → x ≤ y → y < x + n → length (s y) ≢ 0) → free_from s x n ≡ []
  none_of zero x full = refl
  none_of (suc n) x full = passes x n (full x (omega arith) (omega arith)) ∙ none_of n (suc x) (λ y above below. full y (omega (arith, above)) (omega (arith, below)))

  -- the first after k that are not free
  first_of : (k x n count y : ℕ) → count ≡ k + suc n → y ≡ x + k → ((z : ℕ) → x ≤ z → z < y → length (s z) ≢ 0) → length (s y) ≡ 0 → free_from s x count ≡ y ∷ free_from s (suc y) n
  first_of zero x n count y are place full none =
      let one : count ≡ suc n = omega (arith, are) in
      let same : y ≡ x = omega (arith, place) in
      ap (free_from s x) one ∙ comes_first x n (ap (λ (z : ℕ). length (s z)) (sym same) ∙ none) ∙ ap (λ (z : ℕ). z ∷ free_from s (suc z) n) (sym same)
  first_of (suc k) x n count y are place full none =
      let more : count ≡ suc (k + suc n) = omega (arith, are) in
      let on : y ≡ suc x + k = omega (arith, place) in
      ap (free_from s x) more ∙ passes x (k + suc n) (full x (omega arith) (omega (arith, place)))
      ∙ first_of k (suc x) n (k + suc n) y refl on (λ z above below. full z (omega (arith, above)) below) none

  -- no value is empty from one on, up to another at least
  pub none_between : (from last end : ℕ) → last < end → ((y : ℕ) → from ≤ y → y < end → length (s y) ≢ 0) → free_between s from last ≡ []
  none_between from last end within full = none_of (suc last - from) from (λ y above below. full y above (omega (arith, above, below, within)))

  -- the first empty value stands past the last object
  pub first_past : (objects from last x : ℕ) → last < x → IsFirstEmpty objects (λ y. length (s y)) from x → free_between s from last ≡ []
  first_past objects from last x past first = none_between from last x past first.least

  -- or among them
  pub first_within : (objects from last x : ℕ) → x ≤ last → IsFirstEmpty objects (λ y. length (s y)) from x → free_between s from last ≡ x ∷ free_between s (suc x) last
  first_within objects from last x within first =
      let all : suc last - from ≡ (x - from) + suc (last - x) = omega (arith, first.above, within) in
      let there : x ≡ from + (x - from) = omega (arith, first.above) in
      let rest : last - x ≡ suc last - suc x = omega arith in
      first_of (x - from) from (last - x) (suc last - from) x all there first.least first.here ∙ ap (λ (n : ℕ). x ∷ free_from s (suc x) n) rest
