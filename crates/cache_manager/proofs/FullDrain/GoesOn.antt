-- A turn goes on behind its round or its install: it has as many nodes as it may have, or the next one has an object to flush.
use Rattle.std.proofs.Common.{◌≡◌, ◌∙◌, sym, subst, ap, ℕ, zero, suc, ◌-◌, ◌<◌, ◌≤◌, ◌⊎◌, Bool, List, [], ◌∷◌, ◌++◌, length, refl, arith, inl, inr}
use Rattle.std.specs.Prelude.{IsTrue, IsFalse, not, nat_lt}
use Rattle.std.proofs.lemmas.Bool.{and_parts, both_ways, cases_Bool, cond-false, cond-true, cond_both, false_from_ne_true, ltb-true}
use Rattle.oper_core.specs.Meaning.{Meaning}
use Rattle.explain_core.specs.RunLaws.{run-append}
use Rattle.explain_core.specs.RoundGates.{Gate}
use Rattle.explain_core.specs.Turns.{due_from, gate_at, is_due}
use Rattle.explain_core.specs.World.{Step, World, end_of, run}
use Rattle.running_store.specs.Courses.Laws.{behind_both}
use Rattle.running_store.specs.Courses.{Course, and_then, course, is_through}
use Rattle.running_store.specs.Courses.Stop.{Through}
use Rattle.cache_manager.specs.InstallCourses.{finish_steps, first_course, has_members, identities, install_course, is_next_due, is_next_workless, may_flush, must_log, others, readied, ready_turn, removals, round_course, rounds, turn_course, work, workless_course, workless_nodes}
use Rattle.cache_manager.proofs.NextWorkless.{nodes_next, nodes_not, nodes_remove, nodes_through, workless_may, workless_parts, workless_removes}
use Rattle.cache_manager.proofs.MadeReady.Goes.{readied_may}
use Rattle.cache_manager.proofs.Removal.Members.{install_removes, none_identities, removals-append, round_removes}

module _ {O : Type 0} (m : Meaning O) where
  -- so many nodes were removed, or the next one has an object to flush or there is none
  abbrev pub IsAtWork : ℕ → World O → Course O → Type 0
  IsAtWork most w c = (removals c.steps ≡ most) ⊎ IsFalse (is_next_workless m (run m w c.steps))

  at_none : (most : ℕ) (w : World O) (used : ℕ) → IsFalse (is_next_workless m w) → IsAtWork most w (course [] used Through)
  unfolding run
  at_none most w used none = inr none

  nodes_go_on : (n : ℕ) (w : World O) (used : ℕ) → IsAtWork n w (workless_nodes m n w used)
  nodes_go_on zero w used = inl refl
  nodes_go_on (suc n) w used = elim (cases_Bool (is_next_workless m w)) [
    | inl some ↦
        let first = workless_course m w used in
        let v = run m w first.steps in
        let rest = workless_nodes m n v used in
        elim (nodes_go_on n v used) [
          | inl all ↦ inl (omega (arith, nodes_remove m n w used, workless_removes m w used some, all))
          | inr none ↦ inr (subst (λ (u : World O). IsFalse (is_next_workless m u)) (sym (ap (λ (c : Course O). run m w c.steps) (nodes_next m n w used) ∙ run-append m w first.steps rest.steps)) none)
        ]
    | inr none ↦ subst (IsAtWork (suc n) w) (sym (nodes_not m (suc n) w used none)) (at_none (suc n) w used none)
  ]

  -- what a course does behind steps that leave the nodes
  ends_at : (most : ℕ) (w : World O) (steps : List (Step O)) (second : Course O) → removals steps ≡ 0 → IsAtWork most (run m w steps) second → IsAtWork most w (course (steps ++ second.steps) second.used second.stop)
  ends_at most w steps second none at = elim at [
    | inl all ↦ inl (omega (arith, none, all, removals-append steps second.steps))
    | inr off ↦ inr (subst (λ (u : World O). IsFalse (is_next_workless m u)) (sym (run-append m w steps second.steps)) off)
  ]

  -- a round has so many nodes at most
  due_few : (may : World O → ℕ → Bool) (w : World O) (most fuel k : ℕ) → length (due_from m may most fuel k w) ≤ most
  due_few may w most zero k = omega arith
  due_few may w zero (suc fuel) k = omega arith
  due_few may w (suc most) (suc fuel) k =
      cond_both (is_due m may w k) (gate_at m w k ∷ due_from m may most fuel (suc k) w) (due_from m may (suc most) fuel (suc k) w) (λ (l : List Gate). length l ≤ suc most)
      (λ due. let few = due_few may w most fuel (suc k) in omega (arith, few)) (λ off. due_few may w (suc most) fuel (suc k))

  module _ (copied most : ℕ) (some_in : 0 < most) where
    abbrev first : World O → ℕ → Course O
    first w used = first_course m copied most w used

    abbrev rest : World O → ℕ → World O → ℕ → Course O
    rest w used v left = workless_nodes m (most - removals (first w used).steps) v left

    first_few : (w : World O) (used : ℕ) → removals (first w used).steps ≤ most
    first_few w used =
        cond_both (is_next_due m copied w) (round_course m copied most w used) (install_course m copied w used) (λ (c : Course O). removals c.steps ≤ most)
        (λ due. let few = due_few (may_flush m copied) w most (end_of w) 0 in omega (arith, few, round_removes m copied most w))
        (λ off. let few = (install_removes m copied w used).0 in omega (arith, few, some_in))

    ready_goes_on : (w : World O) (used : ℕ) → (ready_turn m copied most w used).stop ≡ Through → IsAtWork most w (ready_turn m copied most w used)
    ready_goes_on w used = elim (cases_Bool (has_members m w)) [
      | inl some ↦
          let one = first w used in
          let v = run m w one.steps in
          let n = most - removals one.steps in
          let more = workless_nodes m n v one.used in
          subst (λ (c : Course O). c.stop ≡ Through → IsAtWork most w c) (sym (cond-true (has_members m w) (and_then m w one (rest w used)) (course [] used Through) some))
          (behind_both (λ (c : Course O). c.stop ≡ Through → IsAtWork most w c) one more one.stop
          (λ on through. elim (nodes_go_on n v one.used) [
            | inl all ↦ inl (omega (arith, first_few w used, removals-append one.steps more.steps, all))
            | inr off ↦ inr (subst (λ (u : World O). IsFalse (is_next_workless m u)) (sym (run-append m w one.steps more.steps)) off)
          ])
          (λ ends through. absurd (both_ways _ ends (ap is_through through))))
      | inr none ↦ subst (λ (c : Course O). c.stop ≡ Through → IsAtWork most w c) (sym (cond-false (has_members m w) (and_then m w (first w used) (rest w used)) (course [] used Through) none))
          (λ through. at_none most w used (false_from_ne_true _ (λ is. both_ways _ none (workless_parts m w is).0)))
    ]

    pub turn_goes_on : (w : World O) (used : ℕ) → (turn_course m copied most w used).stop ≡ Through → IsAtWork most w (turn_course m copied most w used)
    turn_goes_on w used =
        let logging = identities m (readied m copied most w) w used in
        let v = run m w logging.steps in
        let second = ready_turn m copied most v logging.used in
        behind_both (λ (c : Course O). c.stop ≡ Through → IsAtWork most w c) logging second logging.stop
        (λ on through. ends_at most w logging.steps second (none_identities m (readied m copied most w) w used).removed (ready_goes_on v logging.used through))
        (λ ends through. absurd (both_ways _ ends (ap is_through through)))

  -- where the next node has no object to flush, it is not due
  pub workless_off : (copied : ℕ) (w : World O) → IsTrue (is_next_workless m w) → IsFalse (is_next_due m copied w)
  workless_off copied w some = false_from_ne_true _ (λ due. absurd (omega (arith, (workless_parts m w some).1, ltb-true 0 (length (work m w)) (and_parts (not (must_log m copied w)) (nat_lt 0 (length (work m w))) due).1)))

  no_rounds : (copied n : ℕ) (w : World O) (used : ℕ) → IsFalse (must_log m copied w) → rounds m copied n w used ≡ course (finish_steps m w) used Through
  no_rounds copied zero w used may = refl
  no_rounds copied (suc n) w used may =
      cond-false (must_log m copied w) (and_then m w (identities m (others m copied w) w used) (λ v used. rounds m copied n v used)) (course (finish_steps m w) used Through) may

  logs_none : (w : World O) (used : ℕ) (next : World O → ℕ → Course O) → (and_then m w (identities m [] w used) next) ≡ next w used
  unfolding run
  logs_none w used next = refl

  -- nothing is logged before it, and nothing stops the turn
  pub workless_through : (copied most : ℕ) (w : World O) (used : ℕ) → IsTrue (is_next_workless m w) → (turn_course m copied most w used).stop ≡ Through
  workless_through copied most w used some =
      let parts = workless_parts m w some in
      let may = workless_may m copied w parts.1 in
      let one = first_course m copied most w used in
      let finish = course (finish_steps m w) used Through in
      let next : World O → ℕ → Course O = λ v left. workless_nodes m (most - removals one.steps) v left in
      let is : one ≡ finish =
      cond-false (is_next_due m copied w) (round_course m copied most w used) (install_course m copied w used) (workless_off copied w some)
      ∙ cond-true (has_members m w) (rounds m copied m.objects w used) (course [] used Through) parts.0 ∙ no_rounds copied m.objects w used may in
      ap (λ (l : List ℕ). (and_then m w (identities m l w used) (λ v used. ready_turn m copied most v used)).stop) (readied_may m copied most w may)
      ∙ ap (λ (c : Course O). c.stop) (logs_none w used (λ v used. ready_turn m copied most v used))
      ∙ ap (λ (c : Course O). c.stop) (cond-true (has_members m w) (and_then m w one next) (course [] used Through) parts.0)
      ∙ ap (λ (c : Course O). (and_then m w c next).stop) is
      ∙ nodes_through m (most - removals one.steps) (run m w (finish_steps m w)) used
