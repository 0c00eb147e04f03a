-- How many numbers pass, counted below a bound and along a list.
use Rattle.std.proofs.Common.{◌≡◌, ◌∙◌, sym, ap, ℕ, zero, suc, ◌+◌, ◌<◌, Bool, true, false, ◌||◌, if◌then◌else◌, nat_eq, refl, arith, inl, inr}
use Rattle.std.proofs.lemmas.Bool.{cases_eq, eq-eqb, ne_eqb, or_left}
use Rattle.explain_core.specs.Turns.{count_below}

pub count_same : (n : ℕ) (p q : ℕ → Bool) → ((x : ℕ) → x < n → p x ≡ q x) → count_below n p ≡ count_below n q
count_same zero p q same = refl
count_same (suc n) p q same =
    let here : p n ≡ q n = same n (omega arith) in
    let rest : count_below n p ≡ count_below n q = count_same n p q (λ x lt. same x (omega arith)) in
    (λ i. (if here i then 1 else 0) + rest i)

pub count_none : (n : ℕ) → count_below n (λ x. false) ≡ 0
count_none zero = refl
count_none (suc n) = ap (λ (k : ℕ). 0 + k) (count_none n)

-- one number more
pub count_more : (n y : ℕ) (q : ℕ → Bool) → y < n → q y ≡ false → count_below n (λ x. nat_eq x y || q x) ≡ suc (count_below n q)
count_more zero y q lt not_there = absurd (omega arith)
count_more (suc n) y q lt not_there = elim (cases_eq n y) [
  | inl here ↦
      let top : (nat_eq n y || q n) ≡ true = or_left (nat_eq n y) (q n) (eq-eqb n y here) in
      let off : q n ≡ false = ap q here ∙ not_there in
      let rest : count_below n (λ x. nat_eq x y || q x) ≡ count_below n q =
      count_same n (λ x. nat_eq x y || q x) q (λ x below. ap (λ (b : Bool). b || q x) (ne_eqb x y (λ same. absurd (omega (arith, same, here, below))))) in
      (λ i. (if top i then 1 else 0) + rest i) ∙ (omega arith) ∙ ap (λ (b : Bool). suc ((if b then 1 else 0) + count_below n q)) (sym off)
  | inr other ↦
      let top : (nat_eq n y || q n) ≡ q n = ap (λ (b : Bool). b || q n) (ne_eqb n y other) in
      let rest : count_below n (λ x. nat_eq x y || q x) ≡ suc (count_below n q) = count_more n y q (omega (arith, lt, other)) not_there in
      (λ i. (if top i then 1 else 0) + rest i) ∙ omega arith
]
