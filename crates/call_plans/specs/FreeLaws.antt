-- Free objects: they are empty and stand in the range, and one that is written is free no longer.
use Rattle.std.proofs.Common.{◌≡◌, ◌≢◌, ◌≤◌, ◌<◌, inl, inr, ℕ, zero, suc, ◌+◌, Bool, true, false, if◌then◌else◌, List, [], ◌∷◌, length, filter, refl, sym, ap, ◌∙◌, subst, arith, true≢false}
use Rattle.std.specs.List.{AllByRecursion}
use Rattle.std.proofs.lemmas.Bool.Decides.{eqb_tells}
use Rattle.oper_core.specs.State.{State}
use Rattle.call_plans.specs.Free.{is_empty, objects_from}

abbrev head_of : ℕ → List ℕ → ℕ
head_of d [] = d
head_of d (x ∷ xs) = x

abbrev tail_of : List ℕ → List ℕ
tail_of [] = []
tail_of (x ∷ xs) = xs

empty_is : (v : List ℕ) → is_empty v ≡ true → v ≡ []
empty_is [] e = refl
empty_is (b ∷ v) e = absurd (true≢false (sym e))

not_true : (b : Bool) → (b ≡ true → ⊥) → b ≡ false
not_true true never = absurd (never refl)
not_true false never = refl

-- the first free one of n objects from x on, and those after it
pub record FirstFree (s : State) (x n y : ℕ) (rest : List ℕ) : Type 0 where
  pub above : x ≤ y
  pub empty : s y ≡ []
  pub others : ℕ
  pub rest_is : filter (λ z. is_empty (s z)) (objects_from (suc y) others) ≡ rest
  pub ends : suc y + others ≡ x + n

pub first_free : (s : State) (n x y : ℕ) (rest : List ℕ) → filter (λ z. is_empty (s z)) (objects_from x n) ≡ y ∷ rest → FirstFree s x n y rest
first_free s zero x y rest e = absurd (true≢false (ap is_empty e))
first_free s (suc n) x y rest e =
    let behind : List ℕ = filter (λ z. is_empty (s z)) (objects_from (suc x) n) in
    elim (is_empty (s x)) as (λ t. is_empty (s x) ≡ t → (if t then x ∷ behind else behind) ≡ y ∷ rest → FirstFree s x (suc n) y rest) [
      | true ↦ λ free e.
          let same : x ≡ y = ap (head_of x) e in
          record {
            above = omega (arith, same);
            empty = ap s (sym same) ∙ empty_is (s x) free;
            others = n;
            rest_is = ap (λ (k : ℕ). filter (λ z. is_empty (s z)) (objects_from (suc k) n)) (sym same) ∙ ap tail_of e;
            ends = omega (arith, same);
          }
      | false ↦ λ full e.
          let later = first_free s n (suc x) y rest e in
          record { above = omega (arith, later.above); empty = later.empty; others = later.others; rest_is = later.rest_is; ends = omega (arith, later.ends) }
    ] refl e

-- an object that is free was free before, where each of those that are written has a value
pub none_freed : (s t : State) (z : ℕ) (written : List ℕ) → AllByRecursion (λ x. is_empty (t x) ≡ false) written → (AllByRecursion (λ x. z ≢ x) written → t z ≡ s z)
    → is_empty (t z) ≡ true → is_empty (s z) ≡ true
none_freed s t z [] full other empty = sym (ap is_empty (other tt)) ∙ empty
none_freed s t z (x ∷ written) full other empty =
    elim (eqb_tells z x) [
      | inl here ↦ absurd (true≢false (sym empty ∙ ap (λ (y : ℕ). is_empty (t y)) here.1 ∙ full.0))
      | inr apart ↦ none_freed s t z written full.1 (λ rest. other (apart.1, rest)) empty
    ]

module _ (s t : State) (fewer : (z : ℕ) → is_empty (t z) ≡ true → is_empty (s z) ≡ true) where
  counts : (a b : Bool) → (a ≡ true → b ≡ true) → (x : ℕ) (l m : List ℕ) → length l ≤ length m → length (if a then x ∷ l else l) ≤ length (if b then x ∷ m else m)
  counts true true only x l m le = omega (arith, le)
  counts true false only x l m le = absurd (true≢false (sym (only refl)))
  counts false true only x l m le = omega (arith, le)
  counts false false only x l m le = le

  no_more_free : (xs : List ℕ) → length (filter (λ z. is_empty (t z)) xs) ≤ length (filter (λ z. is_empty (s z)) xs)
  no_more_free [] = omega arith
  no_more_free (x ∷ xs) = counts (is_empty (t x)) (is_empty (s x)) (fewer x) x (filter (λ z. is_empty (t z)) xs) (filter (λ z. is_empty (s z)) xs) (no_more_free xs)

  -- where the first free object is written, fewer are free
  pub one_taken : (xs : List ℕ) (y : ℕ) (rest : List ℕ) → filter (λ z. is_empty (s z)) xs ≡ y ∷ rest → is_empty (t y) ≡ false
      → length (filter (λ z. is_empty (t z)) xs) < length (filter (λ z. is_empty (s z)) xs)
  one_taken [] y rest e taken = absurd (true≢false (ap is_empty e))
  one_taken (x ∷ xs) y rest e taken =
      let before : List ℕ = filter (λ z. is_empty (s z)) xs in
      let now : List ℕ = filter (λ z. is_empty (t z)) xs in
      elim (is_empty (s x)) as (λ c. is_empty (s x) ≡ c → (if c then x ∷ before else before) ≡ y ∷ rest → length (if is_empty (t x) then x ∷ now else now) < length (if c then x ∷ before else before)) [
        | true ↦ λ free e.
            let out : is_empty (t x) ≡ false = ap (λ (z : ℕ). is_empty (t z)) (ap (head_of x) e) ∙ taken in
            let few = no_more_free xs in
            subst (λ (c : Bool). length (if c then x ∷ now else now) < suc (length before)) (sym out) (omega (arith, few))
        | false ↦ λ full e.
            let out : is_empty (t x) ≡ false = not_true (is_empty (t x)) (λ is. true≢false (sym (fewer x is) ∙ full)) in
            subst (λ (c : Bool). length (if c then x ∷ now else now) < length before) (sym out) (one_taken xs y rest e taken)
      ] refl e
