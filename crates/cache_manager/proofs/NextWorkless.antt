-- Nodes that have no object to flush are finished one after the other, while the next node is such a one.
use Rattle.std.proofs.Common.{◌≡◌, ◌∙◌, sym, subst, ap, ℕ, zero, suc, ◌+◌, Bool, List, [], ◌∷◌, length, refl, arith, inl, inr}
use Rattle.std.specs.Prelude.{IsTrue, IsFalse, ◌==◌, nat_lt}
use Rattle.std.specs.List.{list_any}
use Rattle.std.proofs.lemmas.Bool.{and_parts, cases_Bool, cond-false, cond-true, eqb-true, le-ltb, or_from}
use Rattle.oper_core.specs.Meaning.{Meaning, IsLawful}
use Rattle.install_order.specs.NodeLaws.{some-gives}
use Rattle.explain_core.specs.World.{World, Step, end_of, run}
use Rattle.running_store.specs.Courses.{Course, and_then, course}
use Rattle.running_store.specs.Courses.Stop.{Through}
use Rattle.running_store.specs.Running.{IsRunning, KeepsSound}
use Rattle.cache_manager.specs.InstallCourses.{finish_steps, has_members, is_next_workless, is_stale, must_log, removals, work, workless_course, workless_nodes}
use Rattle.cache_manager.proofs.NextNode.Finishing.{IsInstalled, finish_goes}
use Rattle.cache_manager.proofs.Goes.{Goes, goes_next, goes_none, goes_weaker}
use Rattle.cache_manager.proofs.Removal.Members.{one_finish, removals-append}
use Rattle.cache_manager.proofs.OneRound.Goes.{IsRounded}

none_any : (p : ℕ → Bool) (objects : List ℕ) → length objects ≡ 0 → IsFalse (list_any p objects)
none_any p [] none = refl
none_any p (x ∷ objects) none = absurd (omega (arith, none))

module _ {O : Type 0} (m : Meaning O) where
  -- the next node has no object to flush, and is finished
  pub workless_is : (w : World O) (used : ℕ) → IsTrue (is_next_workless m w) → workless_course m w used ≡ course (finish_steps m w) used Through
  workless_is w used some = ap (λ (l : List (Step O)). course l used Through) (cond-true (is_next_workless m w) (finish_steps m w) [] some)

  -- or it has one, or there is none
  pub workless_not : (w : World O) (used : ℕ) → IsFalse (is_next_workless m w) → workless_course m w used ≡ course [] used Through
  workless_not w used none = ap (λ (l : List (Step O)). course l used Through) (cond-false (is_next_workless m w) (finish_steps m w) [] none)

  none_first : (n : ℕ) (w : World O) (used : ℕ) → and_then m w (course [] used Through) (λ v used. workless_nodes m n v used) ≡ workless_nodes m n w used
  unfolding run
  none_first n w used = refl

  -- then nothing is done
  pub nodes_not : (n : ℕ) (w : World O) (used : ℕ) → IsFalse (is_next_workless m w) → workless_nodes m n w used ≡ course [] used Through
  nodes_not zero w used none = refl
  nodes_not (suc n) w used none = cond-false (is_next_workless m w) (and_then m w (course (finish_steps m w) used Through) (λ v used. workless_nodes m n v used)) (course [] used Through) none

  -- one is taken first
  pub nodes_next : (n : ℕ) (w : World O) (used : ℕ) → workless_nodes m (suc n) w used ≡ and_then m w (workless_course m w used) (λ v used. workless_nodes m n v used)
  nodes_next n w used = elim (cases_Bool (is_next_workless m w)) [
    | inl some ↦
        cond-true (is_next_workless m w) (and_then m w (course (finish_steps m w) used Through) (λ v used. workless_nodes m n v used)) (course [] used Through) some
        ∙ ap (λ (c : Course O). and_then m w c (λ v used. workless_nodes m n v used)) (sym (workless_is w used some))
    | inr none ↦
        nodes_not (suc n) w used none ∙ sym (nodes_not n w used none) ∙ sym (none_first n w used)
        ∙ ap (λ (c : Course O). and_then m w c (λ v used. workless_nodes m n v used)) (sym (workless_not w used none))
  ]

  -- nothing stops them
  pub nodes_through : (n : ℕ) (w : World O) (used : ℕ) → (workless_nodes m n w used).stop ≡ Through
  nodes_through zero w used = refl
  nodes_through (suc n) w used = ap (λ (c : Course O). c.stop) (nodes_next n w used) ∙ nodes_through n (run m w (workless_course m w used).steps) used

  pub nodes_remove : (n : ℕ) (w : World O) (used : ℕ)
      → removals (workless_nodes m (suc n) w used).steps ≡ removals (workless_course m w used).steps + removals (workless_nodes m n (run m w (workless_course m w used).steps) used).steps
  nodes_remove n w used =
      let first = workless_course m w used in
      ap (λ (c : Course O). removals c.steps) (nodes_next n w used) ∙ removals-append first.steps (workless_nodes m n (run m w first.steps) used).steps

  -- one node is removed, if the next one has no object to flush
  pub workless_removes : (w : World O) (used : ℕ) → IsTrue (is_next_workless m w) → removals (workless_course m w used).steps ≡ 1
  workless_removes w used some = ap (λ (c : Course O). removals c.steps) (workless_is w used some) ∙ (one_finish m w used).through refl

  pub workless_parts : (w : World O) → IsTrue (is_next_workless m w) → IsTrue (has_members m w) × (length (work m w) ≡ 0)
  workless_parts w some = let parts = and_parts (has_members m w) (length (work m w) == 0) some in (parts.0, eqb-true (length (work m w)) 0 parts.1)

  few : (w : World O) → length (work m w) ≡ 0 → IsFalse (nat_lt 1 (length (work m w)))
  few w none = le-ltb 1 (length (work m w)) (omega (arith, none))

  -- it may be finished beside a copy of the slots too
  pub workless_may : (copied : ℕ) (w : World O) → length (work m w) ≡ 0 → IsFalse (must_log m copied w)
  workless_may copied w none = or_from (nat_lt 1 (length (work m w))) (list_any (is_stale m copied w) (work m w)) (few w none) (none_any (is_stale m copied w) (work m w) none)

  module _ (lawful : IsLawful m) (keeps : KeepsSound m) where
    workless_goes : (w : World O) (used : ℕ) → IsRunning m w → Goes m w (workless_course m w used) (λ v. IsRounded m w v (removals (workless_course m w used).steps))
    workless_goes w used is = elim (cases_Bool (is_next_workless m w)) [
      | inl some ↦
          let finish = course (finish_steps m w) used Through in
          let parts = workless_parts w some in
          let one = some-gives (end_of w) w.graph parts.0 in
          subst (λ (c : Course O). Goes m w c (λ v. IsRounded m w v (removals c.steps))) (sym (workless_is w used some))
          (goes_weaker m w finish (IsInstalled m w) (λ v. IsRounded m w v (removals finish.steps))
          (λ v done. record { running = done.running; less = omega (arith, done.less, (one_finish m w used).removed) })
          (finish_goes m lawful keeps w used one.0 is one.2 (few w parts.1)))
      | inr none ↦
          subst (λ (c : Course O). Goes m w c (λ v. IsRounded m w v (removals c.steps))) (sym (workless_not w used none))
          (goes_none m w used (λ v. IsRounded m w v 0) (record { running = is; less = omega arith }))
    ]

    -- they may be finished, and then as many nodes are left less
    pub nodes_go : (n : ℕ) (w : World O) (used : ℕ) → IsRunning m w → Goes m w (workless_nodes m n w used) (λ v. IsRounded m w v (removals (workless_nodes m n w used).steps))
    nodes_go zero w used is = goes_none m w used (λ v. IsRounded m w v 0) (record { running = is; less = omega arith })
    nodes_go (suc n) w used is =
        let first = workless_course m w used in
        let v = run m w first.steps in
        let second = workless_nodes m n v used in
        let Q : World O → Type 0 = λ u. IsRounded m w u (removals (workless_nodes m (suc n) w used).steps) in
        subst (λ (c : Course O). Goes m w c Q) (sym (nodes_next n w used))
        (goes_next m w first (λ v used. workless_nodes m n v used) (λ u. IsRounded m w u (removals first.steps)) Q (workless_goes w used is)
        (λ through there.
        goes_weaker m v second (λ u. IsRounded m v u (removals second.steps)) Q
        (λ u done. record { running = done.running; less = omega (arith, nodes_remove n w used, there.less, done.less) })
        (nodes_go n v used there.running)))

    -- What holds of each course of a kind, from a world in which calls are made, holds of them: of none, of a node's last steps, and of
    -- one such course after the other.
    module _ (copied : ℕ) (Q : World O → Course O → Type 0) (none : (w : World O) (used : ℕ) → Q w (course [] used Through))
        (finish : (w : World O) (used c : ℕ) → IsRunning m w → IsTrue (w.graph c) → IsFalse (must_log m copied w) → Q w (course (finish_steps m w) used Through))
        (then : (w : World O) (first : Course O) (next : World O → ℕ → Course O) (P : World O → Type 0) → Goes m w first P → Q w first → ((v : World O) → P v → Q v (next v first.used)) → Q w (and_then m w first next)) where
      by_workless : (w : World O) (used : ℕ) → IsRunning m w → Q w (workless_course m w used)
      by_workless w used is = elim (cases_Bool (is_next_workless m w)) [
        | inl some ↦
            let parts = workless_parts w some in
            let one = some-gives (end_of w) w.graph parts.0 in
            subst (Q w) (sym (workless_is w used some)) (finish w used one.0 is one.2 (workless_may copied w parts.1))
        | inr off ↦ subst (Q w) (sym (workless_not w used off)) (none w used)
      ]

      pub by_nodes : (n : ℕ) (w : World O) (used : ℕ) → IsRunning m w → Q w (workless_nodes m n w used)
      by_nodes zero w used is = none w used
      by_nodes (suc n) w used is =
          let first = workless_course m w used in
          subst (Q w) (sym (nodes_next n w used))
          (then w first (λ v used. workless_nodes m n v used) (λ v. IsRounded m w v (removals first.steps)) (workless_goes w used is) (by_workless w used is) (λ v done. by_nodes n v used done.running))
