-- An install removes one node, and flushes one object at most; a round removes the node of each of its gates.
use Rattle.std.proofs.Common.{◌≡◌, ◌∙◌, sym, subst, ap, ℕ, zero, suc, ◌+◌, ◌≤◌, Bool, false, List, [], ◌∷◌, ◌++◌, length, take, refl, arith, append_assoc}
use Rattle.std.specs.Prelude.{IsTrue}
use Rattle.std.specs.List.{AllByRecursion}
use Rattle.std.proofs.lemmas.Bool.{both_ways, cond-true, cond_both}
use Rattle.oper_core.specs.Meaning.{Meaning}
use Rattle.explain_core.specs.RoundGates.{Gate, gates_of, removals_of}
use Rattle.explain_core.specs.Turns.{free_gates, free_round, round_gates}
use Rattle.explain_core.specs.World.{World, Step, run}
use Rattle.running_store.specs.Courses.{Course, is_through, course, behind, and_then, force_steps, removal_steps}
use Rattle.cache_manager.specs.EachStep.{each_force, each_identities}
use Rattle.cache_manager.specs.InstallCourses.{removed_by, identities, next_node, work, others, finish_steps, may_flush, must_log, round_steps, rounds, has_members, install_course, flushed_by, flushed_in, removals}
use Rattle.running_store.specs.Courses.Stop.{Through}
use Rattle.running_store.specs.Courses.Laws.{behind_both}

pub flushed-append : {O : Type 0} (xs ys : List (Step O)) → flushed_in (xs ++ ys) ≡ flushed_in xs ++ flushed_in ys
flushed-append [] ys = refl
flushed-append (s ∷ xs) ys = ap (λ (l : List ℕ). flushed_by s ++ l) (flushed-append xs ys) ∙ sym (append_assoc (flushed_by s) (flushed_in xs) (flushed_in ys))

pub removals-append : {O : Type 0} (xs ys : List (Step O)) → removals (xs ++ ys) ≡ removals xs + removals ys
removals-append [] ys = omega arith
removals-append (s ∷ xs) ys = omega (arith, removals-append xs ys)

-- no node is removed, and nothing flushed
pub record RemoveNone {O : Type 0} (steps : List (Step O)) : Type 0 where
  pub removed : removals steps ≡ 0
  pub flushed : flushed_in steps ≡ []

-- one node is removed unless the course is stopped, and one object flushed at most
pub record RemovesOne {O : Type 0} (c : Course O) : Type 0 where
  pub through : c.stop ≡ Through → removals c.steps ≡ 1
  pub removed : removals c.steps ≤ 1
  pub flushed : length (flushed_in c.steps) ≤ 1

module _ {O : Type 0} (m : Meaning O) where
  abbrev RemovesNothing : Step O → Type 0
  RemovesNothing s = (removed_by s ≡ 0) × (flushed_by s ≡ [])

  none_each : (steps : List (Step O)) → AllByRecursion RemovesNothing steps → RemoveNone steps
  none_each [] are = record { removed = refl; flushed = refl }
  none_each (s ∷ steps) are = let rest = none_each steps are.1 in record { removed = omega (arith, are.0.0, rest.removed); flushed = λ i. are.0.1 i ++ rest.flushed i }

  none_force : (w : World O) → RemoveNone (force_steps m w)
  none_force w = none_each (force_steps m w) (each_force m RemovesNothing (refl, refl) w)

  pub none_identities : (objects : List ℕ) (w : World O) (used : ℕ) → RemoveNone (identities m objects w used).steps
  none_identities objects w used = none_each (identities m objects w used).steps (each_identities m RemovesNothing (refl, refl) objects (λ x there value. (refl, refl)) w used)

  pub one_finish : (w : World O) (used : ℕ) → RemovesOne (course (finish_steps m w) used Through)
  one_finish w used =
      let node = next_node m w in
      let rest = listed node (work m w) in
      let none = none_force w in
      let all = removals-append (force_steps m w) (removal_steps m node (work m w)) ∙ (λ i. none.removed i + rest.0 i) in
      let flushed = flushed-append (force_steps m w) (removal_steps m node (work m w)) ∙ ap (λ (l : List ℕ). l ++ flushed_in (removal_steps m node (work m w))) none.flushed in
      record { through = λ e. omega (arith, all); removed = omega (arith, all); flushed = omega (arith, rest.1, ap length flushed) }
    where
      listed : (node : ℕ → Bool) (objects : List ℕ) → (removals (removal_steps m node objects) ≡ 1) × (length (flushed_in (removal_steps m node objects)) ≤ 1)
      listed node [] = (refl, omega arith)
      listed node (x ∷ objects) = (refl, omega arith)

  one_stopped : (c : Course O) → is_through c.stop ≡ false → RemoveNone c.steps → RemovesOne c
  one_stopped c stopped none = record {
    through = λ e. absurd (both_ways (is_through c.stop) stopped (ap is_through e));
    removed = omega (arith, none.removed);
    flushed = omega (arith, ap length none.flushed);
  }

  one_behind : (first second : Course O) → RemoveNone first.steps → RemovesOne second → RemovesOne (behind first second first.stop)
  one_behind first second none one =
      let all = removals-append first.steps second.steps in
      let flushed = flushed-append first.steps second.steps ∙ ap (λ (l : List ℕ). l ++ flushed_in second.steps) none.flushed in
      behind_both (λ (c : Course O). RemovesOne c) first second first.stop
      (λ on. record {
        through = λ s. omega (arith, all, none.removed, one.through s);
        removed = omega (arith, all, none.removed, one.removed);
        flushed = omega (arith, one.flushed, ap length flushed);
      })
      (λ ends. one_stopped first ends none)

  pub rounds_remove : (copied n : ℕ) (w : World O) (used : ℕ) → RemovesOne (rounds m copied n w used)
  rounds_remove copied zero w used = one_finish w used
  rounds_remove copied (suc n) w used =
      let logging = identities m (others m copied w) w used in
      let v = run m w logging.steps in
      cond_both (must_log m copied w) (and_then m w logging (λ v used. rounds m copied n v used)) (course (finish_steps m w) used Through) (λ (c : Course O). RemovesOne c)
      (λ must. one_behind logging (rounds m copied n v logging.used) (none_identities (others m copied w) w used) (rounds_remove copied n v logging.used)) (λ may. one_finish w used)

  -- what a finish flushes, which is the first of the work
  pub finish_flushes : (w : World O) → flushed_in (finish_steps m w) ≡ take 1 (work m w)
  finish_flushes w =
      let node = next_node m w in
      flushed-append (force_steps m w) (removal_steps m node (work m w)) ∙ ap (λ (l : List ℕ). l ++ flushed_in (removal_steps m node (work m w))) (none_force w).flushed ∙ first node (work m w)
    where
      first : (node : ℕ → Bool) (objects : List ℕ) → flushed_in (removal_steps m node objects) ≡ take 1 objects
      first node [] = refl
      first node (x ∷ objects) = refl

  -- where the graph has no member, nothing is done
  pub install_removes : (copied : ℕ) (w : World O) (used : ℕ) → (removals (install_course m copied w used).steps ≤ 1) × (length (flushed_in (install_course m copied w used).steps) ≤ 1)
  install_removes copied w used =
      let one = rounds_remove copied m.objects w used in
      cond_both (has_members m w) (rounds m copied m.objects w used) (course [] used Through) (λ (c : Course O). (removals c.steps ≤ 1) × (length (flushed_in c.steps) ≤ 1)) (λ some. (one.removed, one.flushed)) (λ none. (omega arith, omega arith))

  pub install_removes_one : (copied : ℕ) (w : World O) (used : ℕ) → IsTrue (has_members m w) → (install_course m copied w used).stop ≡ Through → removals (install_course m copied w used).steps ≡ 1
  install_removes_one copied w used some =
      subst (λ (c : Course O). c.stop ≡ Through → removals c.steps ≡ 1) (sym (cond-true (has_members m w) (rounds m copied m.objects w used) (course [] used Through) some)) (rounds_remove copied m.objects w used).through

  -- a round removes the nodes of its gates
  none_gates : (gates : List Gate) → removals {O = O} (gates_of gates) ≡ 0
  none_gates [] = refl
  none_gates (g ∷ gates) = let rest = none_gates gates in omega (arith, rest)

  each_removed : (gates : List Gate) → removals {O = O} (removals_of gates) ≡ length gates
  each_removed [] = refl
  each_removed (g ∷ gates) = let rest = each_removed gates in omega (arith, rest)

  pub round_removes : (copied most : ℕ) (w : World O) → removals (round_steps m copied most w) ≡ length (round_gates m (may_flush m copied) most w)
  round_removes copied most w =
      let gates = round_gates m (may_flush m copied) most w in
      omega (arith, removals-append (force_steps m w) (gates_of gates ++ removals_of gates), removals-append {O = O} (gates_of gates) (removals_of gates), (none_force w).removed, none_gates gates, each_removed gates)

  pub free_removes : (most : ℕ) (w : World O) → removals (free_round m most w) ≡ length (free_gates m most w)
  free_removes most w =
      let gates = free_gates m most w in
      omega (arith, removals-append {O = O} (gates_of gates) (removals_of gates), none_gates gates, each_removed gates)
