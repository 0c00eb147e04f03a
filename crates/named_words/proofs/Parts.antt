-- Parts of lists, where places may be behind the end.
use Rattle.std.proofs.Common.{◌≡◌, ◌≤◌, ◌<◌, ◌⊎◌, inl, inr, ◌∙◌, refl, sym, ap, arith, ◌+◌, ◌-◌, ℕ, zero, suc, min, Bool, true, false, nat_le, List, [], ◌∷◌, length, take, drop, length-drop}
use Rattle.std.proofs.lemmas.Bool.Decides.{nat_tests}
use Rattle.std.proofs.lemmas.List.{drop_all, take_all}

pub either_way : (b : Bool) → (b ≡ true) ⊎ (b ≡ false)
either_way true = inl refl
either_way false = inr refl

le_or : (a b : ℕ) → (a ≤ b) ⊎ (b < a)
le_or a b = elim (either_way (nat_le a b)) [
  | inl low ↦ inl (grind (arith, nat_tests, low))
  | inr high ↦ inr (grind (arith, nat_tests, high))
]

take_none : (n : ℕ) (list : List ℕ) → list ≡ [] → take n list ≡ []
take_none zero list is = refl
take_none (suc n) [] is = refl
take_none (suc n) (x ∷ list) is = absurd cc

module _ (value : List ℕ) where
  -- nothing is behind the end
  past : (n start : ℕ) → length value ≤ start → take n (drop start value) ≡ []
  past n start over = take_none n (drop start value) (drop_all start value over)

  -- so many or more are all
  enough : (m n start : ℕ) → length value - start ≤ m → length value - start ≤ n → take m (drop start value) ≡ take n (drop start value)
  enough m n start less more =
      let long : length (drop start value) ≡ length value - start = length-drop start value in
      take_all m (drop start value) (omega (arith, long, less)) ∙ sym (take_all n (drop start value) (omega (arith, long, more)))

  pub cut_none : (start last end : ℕ) → end ≡ min (length value) (last + 1) → end ≤ start → [] ≡ take (suc last - start) (drop start value)
  cut_none start last end is none = elim (le_or (length value) start) [
    | inl over ↦ sym (past (suc last - start) start over)
    | inr within ↦
        let nothing : suc last - start ≡ 0 = omega (arith, none, is, within) in
        sym (ap (λ n. take n (drop start value)) nothing)
  ]

  pub cut_some : (start last end : ℕ) → end ≡ min (length value) (last + 1) → take (end - start) (drop start value) ≡ take (suc last - start) (drop start value)
  cut_some start last end is = elim (le_or (suc last) (length value)) [
    | inl within ↦ ap (λ n. take n (drop start value)) (omega (arith, within, is))
    | inr over ↦ enough (end - start) (suc last - start) start (omega (arith, over, is)) (omega (arith, over))
  ]

  -- places behind the end are as good as the end
  pub clipped : (p q : ℕ) → take (suc (min (length value) q) - min (length value) p) (drop (min (length value) p) value) ≡ take (suc q - p) (drop p value)
  clipped p q = elim (le_or (length value) p) [
    | inl over ↦ past (suc (min (length value) q) - min (length value) p) (min (length value) p) (omega (arith, over)) ∙ sym (past (suc q - p) p over)
    | inr within ↦
        let same : min (length value) p ≡ p = omega (arith, within) in
        ap (λ n. take (suc (min (length value) q) - n) (drop n value)) same
        ∙ elim (le_or q (length value)) [
          | inl low ↦ ap (λ n. take (suc n - p) (drop p value)) (omega (arith, low))
          | inr high ↦ enough (suc (min (length value) q) - p) (suc q - p) p (omega (arith, high)) (omega (arith, high))
        ]
  ]
