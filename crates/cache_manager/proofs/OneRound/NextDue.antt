-- Where the next node is due a round begins with its gate, so it has one at least.
use Rattle.std.proofs.Common.{◌≡◌, sym, subst, ap, ℕ, zero, suc, ◌+◌, ◌<◌, ◌≤◌, Bool, List, [], ◌∷◌, length, refl, arith, inl, inr}
use Rattle.std.specs.Prelude.{IsTrue, IsFalse, ◌==◌, not, nat_lt}
use Rattle.std.specs.List.{AllByRecursion, list_any}
use Rattle.std.proofs.lemmas.Bool.{and_parts, cases_Bool, both_ways, cond-false, cond-true, eq-eqb, ltb-false, ltb-true, not-true, not_from_false, or_left, or_parts}
use Rattle.oper_core.specs.Meaning.{Meaning, IsLawful}
use Rattle.oper_core.specs.State.{is_among}
use Rattle.explain_core.specs.RoundGates.{Gate}
use Rattle.explain_core.specs.Turns.{due_from, gate_at, is_due, round_gates}
use Rattle.explain_core.specs.Sound.{IsSound}
use Rattle.explain_core.specs.World.{World, end_of, work_of}
use Rattle.cache_manager.specs.InstallCourses.{is_next_due, is_stale, may_flush, must_log, next_name, next_node, work}
use Rattle.cache_manager.proofs.OneRound.DueWorlds.{IsDueNode, due_passes, one_is}
use Rattle.cache_manager.proofs.Lists.{none_passes}
use Rattle.cache_manager.proofs.NextNode.Least.{below, next_has_name, next_is}
use Rattle.cache_manager.proofs.NextNode.WorkOf.{is_listed, listed_is}

-- one object
one_object : (objects : List ℕ) → 0 < length objects → length objects ≤ 1 → (x : ℕ) × (objects ≡ x ∷ [])
one_object [] some few = absurd (omega (arith, some))
one_object (x ∷ []) some few = (x, refl)
one_object (x ∷ y ∷ objects) some few = absurd (omega (arith, few))

module _ {O : Type 0} (m : Meaning O) (may : World O → ℕ → Bool) (w : World O) where
  -- where one is due it is among the gates, or others are
  some_gate : (most fuel k n : ℕ) → k ≤ n → n < k + fuel → IsTrue (is_due m may w n) → 1 ≤ length (due_from m may (suc most) fuel k w)
  some_gate most zero k n low high due = absurd (omega (arith, low, high))
  some_gate most (suc fuel) k n low high due = elim (cases_Bool (is_due m may w k)) [
    | inl here ↦ let same = ap (λ (l : List Gate). length l) (cond-true (is_due m may w k) (gate_at m w k ∷ due_from m may most fuel (suc k) w) (due_from m may (suc most) fuel (suc k) w) here) in omega (arith, same)
    | inr off ↦
        let same = ap (λ (l : List Gate). length l) (cond-false (is_due m may w k) (gate_at m w k ∷ due_from m may most fuel (suc k) w) (due_from m may (suc most) fuel (suc k) w) off) in
        let other : n ≡ k → ⊥ = λ e. both_ways _ off (subst (λ (j : ℕ). IsTrue (is_due m may w j)) e due) in
        let rest = some_gate most fuel (suc k) n (omega (arith, low, other)) (omega (arith, high)) due in
        omega (arith, same, rest)
  ]

  -- each gate is that of a node which is due
  pub each_gate : (P : Gate → Type 0) → ((n : ℕ) → IsTrue (is_due m may w n) → P (gate_at m w n)) → (most fuel k : ℕ) → AllByRecursion P (due_from m may most fuel k w)
  each_gate P each most zero k = tt
  each_gate P each zero (suc fuel) k = tt
  each_gate P each (suc most) (suc fuel) k = elim (cases_Bool (is_due m may w k)) [
    | inl due ↦ subst (λ (l : List Gate). AllByRecursion P l) (sym (cond-true (is_due m may w k) (gate_at m w k ∷ due_from m may most fuel (suc k) w) (due_from m may (suc most) fuel (suc k) w) due)) (each k due, each_gate P each most fuel (suc k))
    | inr off ↦ subst (λ (l : List Gate). AllByRecursion P l) (sym (cond-false (is_due m may w k) (gate_at m w k ∷ due_from m may most fuel (suc k) w) (due_from m may (suc most) fuel (suc k) w) off)) (each_gate P each (suc most) fuel (suc k))
  ]

  gates_some : (most n : ℕ) → 0 < most → n < end_of w → IsTrue (is_due m may w n) → 1 ≤ length (round_gates m may most w)
  gates_some zero n some low due = absurd (omega (arith, some))
  gates_some (suc most) n some low due = some_gate most (end_of w) 0 n (omega arith) (omega (arith, low)) due

module _ {O : Type 0} (m : Meaning O) (lawful : IsLawful m) (w : World O) (sound : IsSound m w) (copied : ℕ) (due : IsTrue (is_next_due m copied w)) where
  parts : IsTrue (not (must_log m copied w)) × IsTrue (nat_lt 0 (length (work m w)))
  parts = and_parts (not (must_log m copied w)) _ due

  fine : IsFalse (nat_lt 1 (length (work m w))) × IsFalse (list_any (is_stale m copied w) (work m w))
  fine = or_parts (nat_lt 1 (length (work m w))) (list_any (is_stale m copied w) (work m w)) (not-true _ parts.0)

  -- what the next node has to flush
  pub first : (x : ℕ) × (work m w ≡ x ∷ [])
  first = let few = ltb-false 1 (length (work m w)) fine.0 in one_object (work m w) (ltb-true 0 (length (work m w)) parts.1) (omega (arith, few))

  among : IsTrue (is_among first.0 (work m w))
  among = subst (λ (l : List ℕ). IsTrue (is_among first.0 l)) (sym first.1) (or_left (first.0 == first.0) _ (eq-eqb first.0 first.0 refl))

  flushed : work_of m w (next_node m w) first.0
  flushed = listed_is m lawful w sound first.0 among

  held : IsTrue (w.graph flushed.0.0)
  held = (and_parts (w.graph flushed.0.0) _ flushed.0.2.0).0

  -- it is due
  pub next_due : IsDueNode m lawful w sound (may_flush m copied) (next_name m w) first.0
  next_due =
      let named = next_has_name m lawful w sound flushed.0.0 held in
      record {
        member = named.0;
        is_name = named.1;
        minimal = (next_is m lawful w sound flushed.0.0 held).minimal;
        work = flushed;
        only = λ y other. one_is first.0 y (subst (λ (l : List ℕ). IsTrue (is_among y l)) first.1 (is_listed m lawful w sound y other));
        flushes = not_from_false _ (none_passes (is_stale m copied w) (work m w) fine.1 first.0 among);
      }

  pub round_some : (most : ℕ) → 0 < most → 1 ≤ length (round_gates m (may_flush m copied) most w)
  round_some most some =
      let name = next_name m w in
      gates_some m (may_flush m copied) w most name some (below m lawful w sound name next_due.member) (due_passes m lawful w sound (may_flush m copied) name first.0 next_due)
