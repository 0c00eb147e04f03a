-- A round has as many nodes as it may, or all that are due.
use Rattle.std.proofs.Common.{◌≡◌, sym, subst, ap, ℕ, zero, suc, ◌+◌, ◌<◌, ◌≤◌, ◌⊎◌, Bool, List, ◌∷◌, length, refl, arith, inl, inr}
use Rattle.std.specs.Prelude.{IsTrue}
use Rattle.std.proofs.lemmas.Bool.{both_ways, cases_Bool, cases_eq, cond-false, cond-true}
use Rattle.oper_core.specs.Meaning.{Meaning}
use Rattle.explain_core.specs.RoundGates.{Gate, IsGateAmong}
use Rattle.explain_core.specs.Turns.{due_from, gate_at, is_due, round_gates}
use Rattle.explain_core.specs.World.{World, end_of}

module _ {O : Type 0} (m : Meaning O) (may : World O → ℕ → Bool) (w : World O) (n : ℕ) (due : IsTrue (is_due m may w n)) where
  abbrev IsFull : ℕ → List Gate → Type 0
  IsFull most gates = (length gates ≡ most) ⊎ IsGateAmong (gate_at m w n) gates

  full_from : (most fuel k : ℕ) → k ≤ n → n < k + fuel → IsFull most (due_from m may most fuel k w)
  full_from most zero k low high = absurd (omega (arith, low, high))
  full_from zero (suc fuel) k low high = inl refl
  full_from (suc most) (suc fuel) k low high =
      let here : List Gate = gate_at m w k ∷ due_from m may most fuel (suc k) w in
      let later : List Gate = due_from m may (suc most) fuel (suc k) w in
      elim (cases_Bool (is_due m may w k)) [
        | inl is ↦ subst (λ (l : List Gate). IsFull (suc most) l) (sym (cond-true (is_due m may w k) here later is)) (elim (cases_eq n k) [
          | inl same ↦ inr (inl (ap (λ (j : ℕ). gate_at m w j) same))
          | inr other ↦ elim (full_from most fuel (suc k) (omega (arith, low, other)) (omega (arith, high))) [ inl full ↦ inl (omega (arith, full)) | inr there ↦ inr (inr there) ]
        ])
        | inr off ↦
            let other : n ≡ k → ⊥ = λ same. both_ways _ off (subst (λ (j : ℕ). IsTrue (is_due m may w j)) same due) in
            subst (λ (l : List Gate). IsFull (suc most) l) (sym (cond-false (is_due m may w k) here later off)) (full_from (suc most) fuel (suc k) (omega (arith, low, other)) (omega (arith, high)))
      ]

  pub full_or_all : (most : ℕ) → n < end_of w → IsFull most (round_gates m may most w)
  full_or_all most low = full_from most (end_of w) 0 (omega arith) (omega (arith, low))
