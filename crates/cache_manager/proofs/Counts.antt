-- Counts of the numbers that pass, compared.
use Rattle.std.proofs.Common.{◌≡◌, subst, ap, ℕ, zero, suc, ◌+◌, ◌<◌, ◌≤◌, Bool, false, refl, arith, inl, inr, if◌then◌else◌}
use Rattle.std.specs.Prelude.{IsTrue, IsFalse}
use Rattle.std.proofs.lemmas.Bool.{cases_Bool, cases_eq, both_ways}
use Rattle.explain_core.specs.CountLaws.{count_none}
use Rattle.explain_core.specs.Turns.{count_below}

count_in : (n : ℕ) (p : ℕ → Bool) → IsTrue (p n) → count_below (suc n) p ≡ 1 + count_below n p
count_in n p held = ap (λ (b : Bool). (if b then 1 else 0) + count_below n p) held

count_out : (n : ℕ) (p : ℕ → Bool) → IsFalse (p n) → count_below (suc n) p ≡ 0 + count_below n p
count_out n p left = ap (λ (b : Bool). (if b then 1 else 0) + count_below n p) left

-- where each that passes one test passes another, no more pass the one
pub count_le : (n : ℕ) (p q : ℕ → Bool) → ((k : ℕ) → k < n → IsTrue (p k) → IsTrue (q k)) → count_below n p ≤ count_below n q
count_le zero p q so = omega arith
count_le (suc n) p q so =
    let rest = count_le n p q (λ k lt held. so k (omega (arith, lt)) held) in
    elim (cases_Bool (p n)) [
      | inl held ↦ omega (arith, rest, count_in n p held, count_in n q (so n (omega arith) held))
      | inr left ↦ elim (cases_Bool (q n)) [
        | inl more ↦ omega (arith, rest, count_out n p left, count_in n q more)
        | inr none ↦ omega (arith, rest, count_out n p left, count_out n q none)
      ]
    ]

-- and fewer do where one number passes the other alone
pub count_less : (n : ℕ) (p q : ℕ → Bool) → ((k : ℕ) → k < n → IsTrue (p k) → IsTrue (q k)) → (one : ℕ) → one < n → IsFalse (p one) → IsTrue (q one) → count_below n p < count_below n q
count_less zero p q so one lt left held = absurd (omega (arith, lt))
count_less (suc n) p q so one lt left held = elim (cases_eq one n) [
  | inl here ↦
      let rest = count_le n p q (λ k low is. so k (omega (arith, low)) is) in
      omega (arith, rest, count_out n p (subst (λ (k : ℕ). IsFalse (p k)) here left), count_in n q (subst (λ (k : ℕ). IsTrue (q k)) here held))
  | inr other ↦
      let rest = count_less n p q (λ k low is. so k (omega (arith, low)) is) one (omega (arith, lt, other)) left held in
      elim (cases_Bool (p n)) [
        | inl top ↦ omega (arith, rest, count_in n p top, count_in n q (so n (omega arith) top))
        | inr off ↦ elim (cases_Bool (q n)) [
          | inl more ↦ omega (arith, rest, count_out n p off, count_in n q more)
          | inr none ↦ omega (arith, rest, count_out n p off, count_out n q none)
        ]
      ]
]

-- where some number passes, the count is not 0
pub count_one : (n : ℕ) (p : ℕ → Bool) (one : ℕ) → one < n → IsTrue (p one) → 1 ≤ count_below n p
count_one n p one lt held = omega (arith, count_none n, count_less n (λ k. false) p (λ k low no. absurd (both_ways _ refl no)) one lt refl held)

pub count_at_most : (n : ℕ) (p : ℕ → Bool) → count_below n p ≤ n
count_at_most zero p = omega arith
count_at_most (suc n) p =
    let rest = count_at_most n p in
    elim (cases_Bool (p n)) [ inl held ↦ omega (arith, rest, count_in n p held) | inr left ↦ omega (arith, rest, count_out n p left) ]
