-- The courses of forces, installs and drains add no command.
use Rattle.std.proofs.Common.{ℕ, zero, suc, ◌+◌, ◌-◌, Bool, List, [], ◌∷◌, ◌++◌}
use Rattle.std.specs.Prelude.{◌^◌, nat_lt, if◌then◌else◌}
use Rattle.std.specs.List.{AllByRecursion}
use Rattle.std.proofs.lemmas.Bool.{cond_both}
use Rattle.oper_core.specs.Meaning.{Meaning}
use Rattle.explain_core.specs.RoundGates.{Gate, gates_of, removals_of}
use Rattle.explain_core.specs.Turns.{count_below, dirty_in, round_gates}
use Rattle.explain_core.specs.World.{World, Step, run, end_of}
use Rattle.explain_core.specs.World.Step.{Block_gate}
use Rattle.running_store.specs.Courses.{Course, course, and_then, waits, buffered, force_steps, room_steps, removal_steps}
use Rattle.cache_manager.specs.InstallCourses.{identities, next_node, work, must_log, others, finish_steps, first_course, rounds, has_members, is_next_workless, workless_nodes, install_course, may_flush, readied, ready_turn, removals, round_steps, round_course, is_next_due, turn_course, turns, all_turns, round_limit, drain_course}
use Rattle.running_store.specs.Courses.Stop.{Through}
use Rattle.running_store.specs.Courses.Laws.{behind_both}
use Rattle.running_store.specs.Running.{AreUpkeep, IsUpkeep}
use Rattle.cache_manager.specs.EachStep.{each_identities}

module _ {O : Type 0} (m : Meaning O) where
  pub upkeep_append : (xs ys : List (Step O)) → AreUpkeep xs → AreUpkeep ys → AreUpkeep (xs ++ ys)
  upkeep_append [] ys first second = second
  upkeep_append (x ∷ xs) ys first second = (first.0, upkeep_append xs ys first.1 second)

  pub upkeep_if : (b : Bool) (xs ys : List (Step O)) → AreUpkeep xs → AreUpkeep ys → AreUpkeep (if b then xs else ys)
  upkeep_if b xs ys first second = cond_both b xs ys (λ (l : List (Step O)). AreUpkeep l) (λ is. first) (λ is. second)

  pub upkeep_either : (b : Bool) (c e : Course O) → AreUpkeep c.steps → AreUpkeep e.steps → AreUpkeep (if b then c else e).steps
  upkeep_either b c e first second = cond_both b c e (λ (c : Course O). AreUpkeep c.steps) (λ is. first) (λ is. second)

  pub upkeep_then : (w : World O) (first : Course O) (next : World O → ℕ → Course O) → AreUpkeep first.steps → ((v : World O) (used : ℕ) → AreUpkeep (next v used).steps) → AreUpkeep (and_then m w first next).steps
  upkeep_then w first next a b =
      let second = next (run m w first.steps) first.used in
      behind_both (λ (c : Course O). AreUpkeep c.steps) first second first.stop (λ on. upkeep_append first.steps second.steps a (b (run m w first.steps) first.used)) (λ ends. a)

  pub upkeep_force : (w : World O) → AreUpkeep (force_steps m w)
  upkeep_force w = upkeep_if (waits m w) (Block_gate ∷ []) [] (tt, tt) tt

  pub upkeep_room : (w : World O) (n : ℕ) → AreUpkeep (room_steps m w n)
  upkeep_room w n = upkeep_if (nat_lt (2 ^ 30) (buffered m w + n)) (force_steps m w) [] (upkeep_force w) tt

  are_upkeep : (steps : List (Step O)) → AllByRecursion IsUpkeep steps → AreUpkeep steps
  are_upkeep [] are = tt
  are_upkeep (s ∷ steps) are = (are.0, are_upkeep steps are.1)

  pub upkeep_identities : (objects : List ℕ) (w : World O) (used : ℕ) → AreUpkeep (identities m objects w used).steps
  upkeep_identities objects w used = are_upkeep (identities m objects w used).steps (each_identities m IsUpkeep tt objects (λ x there value. tt) w used)

  pub upkeep_removal : (node : ℕ → Bool) (objects : List ℕ) → AreUpkeep (removal_steps m node objects)
  upkeep_removal node [] = (tt, tt)
  upkeep_removal node (x ∷ objects) = (tt, (tt, tt))

  pub upkeep_finish : (w : World O) → AreUpkeep (finish_steps m w)
  upkeep_finish w = upkeep_append (force_steps m w) (removal_steps m (next_node m w) (work m w)) (upkeep_force w) (upkeep_removal (next_node m w) (work m w))

  pub upkeep_rounds : (copied n : ℕ) (w : World O) (used : ℕ) → AreUpkeep (rounds m copied n w used).steps
  upkeep_rounds copied zero w used = upkeep_finish w
  upkeep_rounds copied (suc n) w used =
      upkeep_either (must_log m copied w) (and_then m w (identities m (others m copied w) w used) (λ v used. rounds m copied n v used)) (course (finish_steps m w) used Through)
      (upkeep_then w (identities m (others m copied w) w used) (λ v used. rounds m copied n v used) (upkeep_identities (others m copied w) w used) (λ v used. upkeep_rounds copied n v used))
      (upkeep_finish w)

  pub upkeep_install : (copied : ℕ) (w : World O) (used : ℕ) → AreUpkeep (install_course m copied w used).steps
  upkeep_install copied w used = upkeep_either (has_members m w) (rounds m copied m.objects w used) (course [] used Through) (upkeep_rounds copied m.objects w used) tt

  pub upkeep_gates : (gates : List Gate) → AreUpkeep {O = O} (gates_of gates)
  upkeep_gates [] = tt
  upkeep_gates (g ∷ gates) = (tt, upkeep_gates gates)

  pub upkeep_removals : (gates : List Gate) → AreUpkeep {O = O} (removals_of gates)
  upkeep_removals [] = tt
  upkeep_removals (g ∷ gates) = (tt, upkeep_removals gates)

  pub upkeep_round : (copied most : ℕ) (w : World O) → AreUpkeep (round_steps m copied most w)
  upkeep_round copied most w =
      let gates = round_gates m (may_flush m copied) most w in
      upkeep_append (force_steps m w) (gates_of gates ++ removals_of gates) (upkeep_force w) (upkeep_append (gates_of gates) (removals_of gates) (upkeep_gates gates) (upkeep_removals gates))

  upkeep_nodes : (n : ℕ) (w : World O) (used : ℕ) → AreUpkeep (workless_nodes m n w used).steps
  upkeep_nodes zero w used = tt
  upkeep_nodes (suc n) w used =
      let one = course (finish_steps m w) used Through in
      upkeep_either (is_next_workless m w) (and_then m w one (λ v used. workless_nodes m n v used)) (course [] used Through) (upkeep_then w one (λ v used. workless_nodes m n v used) (upkeep_finish w) (λ v used. upkeep_nodes n v used)) tt

  upkeep_first : (copied most : ℕ) (w : World O) (used : ℕ) → AreUpkeep (first_course m copied most w used).steps
  upkeep_first copied most w used = upkeep_either (is_next_due m copied w) (round_course m copied most w used) (install_course m copied w used) (upkeep_round copied most w) (upkeep_install copied w used)

  upkeep_ready : (copied most : ℕ) (w : World O) (used : ℕ) → AreUpkeep (ready_turn m copied most w used).steps
  upkeep_ready copied most w used =
      let first = first_course m copied most w used in
      let n = most - removals first.steps in
      upkeep_either (has_members m w) (and_then m w first (λ v used. workless_nodes m n v used)) (course [] used Through) (upkeep_then w first (λ v used. workless_nodes m n v used) (upkeep_first copied most w used) (λ v used. upkeep_nodes n v used)) tt

  pub upkeep_turn : (copied most : ℕ) (w : World O) (used : ℕ) → AreUpkeep (turn_course m copied most w used).steps
  upkeep_turn copied most w used =
      upkeep_then w (identities m (readied m copied most w) w used) (λ v used. ready_turn m copied most v used) (upkeep_identities (readied m copied most w) w used) (λ v used. upkeep_ready copied most v used)

  upkeep_turns : (copied most n : ℕ) (w : World O) (used : ℕ) → AreUpkeep (turns m copied most n w used).steps
  upkeep_turns copied most zero w used = tt
  upkeep_turns copied most (suc n) w used =
      upkeep_either (has_members m w) (and_then m w (turn_course m copied most w used) (λ v used. turns m copied most n v used)) (course [] used Through)
      (upkeep_then w (turn_course m copied most w used) (λ v used. turns m copied most n v used) (upkeep_turn copied most w used) (λ v used. upkeep_turns copied most n v used)) tt

  pub upkeep_all_turns : (copied most : ℕ) (w : World O) (used : ℕ) → AreUpkeep (all_turns m copied most w used).steps
  upkeep_all_turns copied most w used = upkeep_turns copied most (count_below (end_of w) w.graph + dirty_in m w) w used

  pub upkeep_drain : (copied : ℕ) (w : World O) (used : ℕ) → AreUpkeep (drain_course m copied w used).steps
  upkeep_drain copied w used = upkeep_all_turns copied (round_limit m) w used
