-- As many nodes are made ready as may be, or all that may not be finished yet.
use Rattle.std.proofs.Common.{◌≡◌, ◌∙◌, sym, subst, ap, ℕ, zero, suc, ◌+◌, ◌<◌, ◌≤◌, ◌⊎◌, Bool, List, [], ◌∷◌, length, refl, arith, inl, inr, Option, None, Some}
use Rattle.std.specs.Prelude.{IsTrue, IsFalse, ◌==◌, not}
use Rattle.std.specs.List.{filter}
use Rattle.std.proofs.lemmas.Bool.{both_ways, cases_Bool, cases_eq, cond-false, cond-true, cond_both, eq-eqb, eqb-true, ne_eqb, not-false, not_from_false, or_cases, or_left, or_parts, or_right}
use Rattle.std.proofs.lemmas.List.Folds.{list_any-append}
use Rattle.oper_core.specs.Meaning.{Meaning}
use Rattle.oper_core.specs.State.{is_among}
use Rattle.identity_writes.specs.Plan.{but_kept}
use Rattle.explain_core.specs.Turns.{has_work}
use Rattle.explain_core.specs.World.{World, end_of, node_named}
use Rattle.running_store.specs.Courses.{cached_length}
use Rattle.cache_manager.specs.InstallCourses.{counted, is_unready, longest_of, must_log, not_copied, others_in, others_of, readied, unready_from, unready_nodes, work_in}
use Rattle.cache_manager.proofs.Lists.{AreApart, apart_counted, apart_filter}

module _ {O : Type 0} (m : Meaning O) (copied : ℕ) (w : World O) where
  module _ (n : ℕ) (is : IsTrue (is_unready m copied w n)) where
    abbrev IsFull : ℕ → List ℕ → Type 0
    IsFull most names = (length names ≡ most) ⊎ IsTrue (is_among n names)

    full_from : (most fuel k : ℕ) → k ≤ n → n < k + fuel → IsFull most (unready_from m copied most fuel k w)
    full_from most zero k low high = absurd (omega (arith, low, high))
    full_from zero (suc fuel) k low high = inl refl
    full_from (suc most) (suc fuel) k low high =
        let rest = unready_from m copied most fuel (suc k) w in
        let later = unready_from m copied (suc most) fuel (suc k) w in
        elim (cases_Bool (is_unready m copied w k)) [
          | inl here ↦ subst (IsFull (suc most)) (sym (cond-true (is_unready m copied w k) (k ∷ rest) later here)) (elim (cases_eq n k) [
            | inl same ↦ inr (or_left (n == k) (is_among n rest) (eq-eqb n k same))
            | inr other ↦ elim (full_from most fuel (suc k) (omega (arith, low, other)) (omega (arith, high))) [ inl full ↦ inl (omega (arith, full)) | inr there ↦ inr (or_right (n == k) (is_among n rest) there) ]
          ])
          | inr off ↦
              let other : n ≡ k → ⊥ = λ same. both_ways _ off (subst (λ (j : ℕ). IsTrue (is_unready m copied w j)) same is) in
              subst (IsFull (suc most)) (sym (cond-false (is_unready m copied w k) (k ∷ rest) later off)) (full_from (suc most) fuel (suc k) (omega (arith, low, other)) (omega (arith, high)))
        ]

    pub all_or_full : (most : ℕ) → n < end_of w → IsFull most (unready_nodes m copied most w)
    all_or_full most low = full_from most (end_of w) 0 (omega arith) (omega (arith, low))

  -- where there is none, none is made ready
  pub none_unready : ((n : ℕ) → IsFalse (is_unready m copied w n)) → (most fuel k : ℕ) → unready_from m copied most fuel k w ≡ []
  none_unready none most zero k = refl
  none_unready none zero (suc fuel) k = refl
  none_unready none (suc most) (suc fuel) k = cond-false (is_unready m copied w k) (k ∷ unready_from m copied most fuel (suc k) w) (unready_from m copied (suc most) fuel (suc k) w) (none k) ∙ none_unready none (suc most) fuel (suc k)

  -- what is logged of each is logged
  in_others : (names : List ℕ) (n x : ℕ) → IsTrue (is_among n names) → IsTrue (is_among x (others_in m copied w (node_named m w n))) → IsTrue (is_among x (others_of m copied w names))
  in_others [] n x there one = absurd (both_ways _ refl there)
  in_others (k ∷ names) n x there one =
      let both = list_any-append (λ y. x == y) (others_in m copied w (node_named m w k)) (others_of m copied w names) in
      elim (or_cases (n == k) (is_among n names) there) [
        | inl here ↦ both ∙ or_left _ (is_among x (others_of m copied w names)) (subst (λ (j : ℕ). IsTrue (is_among x (others_in m copied w (node_named m w j)))) (eqb-true n k here) one)
        | inr later ↦ both ∙ or_right (is_among x (others_in m copied w (node_named m w k))) _ (in_others names n x later one)
      ]

  pub are_readied : (most n : ℕ) → IsTrue (must_log m copied w) → IsTrue (is_among n (unready_nodes m copied most w)) → (x : ℕ) → IsTrue (is_among x (others_in m copied w (node_named m w n))) → IsTrue (is_among x (readied m copied most w))
  are_readied most n must there x one =
      subst (λ (l : List ℕ). IsTrue (is_among x l)) (sym (cond-true (must_log m copied w) (others_of m copied w (unready_nodes m copied most w)) [] must)) (in_others (unready_nodes m copied most w) n x there one)

  -- and that is all of its work but one object at most
  pub one_stays : (n : ℕ) → length (work_in m w (node_named m w n)) ≤ length (others_in m copied w (node_named m w n)) + 1
  one_stays n =
      let node = node_named m w n in
      but_one (longest_of (cached_length m w) (not_copied copied (work_in m w node))) (work_in m w node) (work_apart_here node)
    where
      work_apart_here : (node : ℕ → Bool) → AreApart (work_in m w node)
      work_apart_here node = apart_filter (has_work m w node) (counted 0 m.objects) (apart_counted 0 m.objects)

      none_less : (k : ℕ) (xs : List ℕ) → IsFalse (is_among k xs) → length (filter (λ y. not (y == k)) xs) ≡ length xs
      none_less k [] out = refl
      none_less k (y ∷ xs) out =
          let u = or_parts (k == y) (is_among k xs) out in
          let kept : IsTrue (not (y == k)) = not_from_false _ (ne_eqb y k (λ same. both_ways _ u.0 (eq-eqb k y (sym same)))) in
          ap (λ (l : List ℕ). length l) (cond-true (not (y == k)) (y ∷ filter (λ y. not (y == k)) xs) (filter (λ y. not (y == k)) xs) kept) ∙ ap suc (none_less k xs u.1)

      but_one : (o : Option ℕ) (xs : List ℕ) → AreApart xs → length xs ≤ length (but_kept o xs) + 1
      but_one None xs apart = omega arith
      but_one (Some k) [] apart = omega arith
      but_one (Some k) (y ∷ xs) apart =
          cond_both (not (y == k)) (y ∷ filter (λ y. not (y == k)) xs) (filter (λ y. not (y == k)) xs) (λ (l : List ℕ). suc (length xs) ≤ length l + 1)
          (λ stays. let rest = but_one (Some k) xs apart.1 in omega (arith, rest))
          (λ off.
          let same : y ≡ k = eqb-true y k (not-false _ off) in
          let all = none_less k xs (subst (λ (j : ℕ). IsFalse (is_among j xs)) same apart.0) in
          omega (arith, all))
