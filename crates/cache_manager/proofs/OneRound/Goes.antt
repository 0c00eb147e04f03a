-- A round may be taken: a force, the gates of minimal nodes one after the other, and their removals.
use Rattle.std.proofs.Common.{◌≡◌, ap, subst, ℕ, zero, suc, ◌+◌, ◌≤◌, Bool, true, false, List, [], ◌∷◌, ◌++◌, length, refl, arith}
use Rattle.std.specs.Prelude.{if◌then◌else◌}
use Rattle.std.proofs.lemmas.Bool.{and_parts}
use Rattle.oper_core.specs.Meaning.{Meaning}
use Rattle.explain_core.specs.RoundGates.{Gate, gate_step, gates_of, removals_of}
use Rattle.explain_core.specs.RoundRemovals.{nodes_removed}
use Rattle.explain_core.specs.Turns.{due_from, gate_at, is_due, round_gates}
use Rattle.explain_core.specs.RunLaws.{allowed-append, run-append}
use Rattle.explain_core.specs.World.{AreAllowed, IsAllStable, Starts, World, end_of, run, step}
use Rattle.explain_core.specs.World.Step.{Block_gate, Removal}
use Rattle.running_store.specs.Courses.{course, force_course, force_steps, waits}
use Rattle.running_store.specs.Courses.Stop.{Through}
use Rattle.running_store.specs.Running.{IsRunning, KeepsSound, running_after}
use Rattle.cache_manager.specs.InstallCourses.{may_flush, round_course}
use Rattle.cache_manager.specs.Upkeep.{upkeep_append, upkeep_gates, upkeep_removals}
use Rattle.cache_manager.proofs.Balance.{AreBelow, sound_below}
use Rattle.cache_manager.proofs.Goes.{Goes, force_goes, goes_then, with_forced}
use Rattle.cache_manager.proofs.Plain.{left_in, removal_left, slot_left}

module _ {O : Type 0} (m : Meaning O) where
  -- the gates leave no more to do, and the removals less
  gates_below : (w : World O) (gates : List Gate) → AreBelow m w → AreBelow m (run m w (gates_of gates))
  unfolding run step
  gates_below w [] below = below
  gates_below w (g ∷ gates) below = gates_below (step m w (gate_step g)) gates below

  gates_less : (w : World O) (gates : List Gate) → left_in m (run m w (gates_of gates)) ≤ left_in m w
  unfolding run
  gates_less w [] = omega arith
  gates_less w (g ∷ gates) = let rest = gates_less (step m w (gate_step g)) gates in omega (arith, rest, slot_left m w g.node g.object)

  removal_below : (w : World O) (node : ℕ → Bool) → AreBelow m w → AreBelow m (step m w (Removal node))
  unfolding step
  removal_below w node below n there = below n (and_parts (w.graph n) _ there).0

  removals_less : (w : World O) (gates : List Gate) → AreBelow m w → AreAllowed m w (removals_of gates) → left_in m (run m w (removals_of gates)) + length gates ≤ left_in m w
  unfolding run
  removals_less w [] below may = omega arith
  removals_less w (g ∷ gates) below may =
      let one = may.0.0.1.0.0 in
      let on = may.0.0.1.0.1 in
      let held = may.0.0.0 one on in
      let less = removal_left m w g.node one (below one held) held on in
      let rest = removals_less (step m w (Removal g.node)) gates (removal_below w g.node below) may.1 in
      omega (arith, less, rest)

  -- what is forced is no part of a round
  module _ (copied : ℕ) where
    due_same : (w : World O) (forced : ℕ) (tables pending : List Starts) (most fuel k : ℕ) → due_from m (may_flush m copied) most fuel k (with_forced m w forced tables pending) ≡ due_from m (may_flush m copied) most fuel k w
    due_same w forced tables pending most zero k = refl
    due_same w forced tables pending zero (suc fuel) k = refl
    due_same w forced tables pending (suc most) (suc fuel) k =
        let taken = due_same w forced tables pending most fuel (suc k) in
        let left = due_same w forced tables pending (suc most) fuel (suc k) in
        λ i. if is_due m (may_flush m copied) w k then gate_at m w k ∷ taken i else left i

    round_same : (w : World O) (forced : ℕ) (tables pending : List Starts) (most : ℕ) → round_gates m (may_flush m copied) most (with_forced m w forced tables pending) ≡ round_gates m (may_flush m copied) most w
    round_same w forced tables pending most = due_same w forced tables pending most (end_of w) 0

    pub round_forced : (most : ℕ) (w : World O) → round_gates m (may_flush m copied) most (run m w (force_steps m w)) ≡ round_gates m (may_flush m copied) most w
    unfolding run step
    round_forced most w = either (waits m w)
      where
        either : (b : Bool) → round_gates m (may_flush m copied) most (run m w (if b then Block_gate ∷ [] else [])) ≡ round_gates m (may_flush m copied) most w
        either true = round_same w (length w.history) (w.pending ++ w.tables) [] most
        either false = refl

-- after a round so many nodes are left less
pub record IsRounded {O : Type 0} (m : Meaning O) (w v : World O) (count : ℕ) : Type 0 where
  pub running : IsRunning m v
  pub less : left_in m v + count ≤ left_in m w

-- the gates of a round may be opened
abbrev pub MayRound : {O : Type 0} → Meaning O → Type 0
MayRound {O} m = (may : World O → ℕ → Bool) (most : ℕ) (v : World O) → IsRunning m v → IsAllStable v → AreAllowed m v (gates_of (round_gates m may most v))

module _ {O : Type 0} (m : Meaning O) (keeps : KeepsSound m) where
  -- gates that may be opened, and the removals of their nodes
  gates_go : (v : World O) (used : ℕ) (gates : List Gate) → IsRunning m v → AreAllowed m v (gates_of gates) → Goes m v (course (gates_of gates ++ removals_of gates) used Through) (λ u. IsRounded m v u (length gates))
  gates_go v used gates is may =
      let u = run m v (gates_of gates) in
      let removed = nodes_removed m v gates may in
      let all = allowed-append m v (gates_of gates) (removals_of gates) may removed in
      let below = gates_below m v gates (sound_below m v is.sound) in
      let after : run m v (gates_of gates ++ removals_of gates) ≡ run m u (removals_of gates) = run-append m v (gates_of gates) (removals_of gates) in
      record {
        allowed = all;
        through = λ e. record {
          running = running_after m v (gates_of gates ++ removals_of gates) keeps is (upkeep_append m (gates_of gates) (removals_of gates) (upkeep_gates m gates) (upkeep_removals m gates)) all;
          less = let same = ap (λ (t : World O). left_in m t) after in omega (arith, same, gates_less m v gates, removals_less m u gates below removed);
        };
      }

  module _ (rounds : MayRound m) (copied most : ℕ) where
    pub round_goes : (w : World O) (used : ℕ) → IsRunning m w → Goes m w (round_course m copied most w used) (λ u. IsRounded m w u (length (round_gates m (may_flush m copied) most w)))
    round_goes w used is =
        let gates = round_gates m (may_flush m copied) most w in
        let Q : World O → Type 0 = λ u. IsRounded m w u (length gates) in
        let P : World O → Type 0 = λ v. Goes m v (course (gates_of gates ++ removals_of gates) used Through) Q in
        goes_then m w (force_course m w used) (λ v used. course (gates_of gates ++ removals_of gates) used Through) P Q
        (force_goes m keeps w used P is (λ forced tables pending running stable.
        let v = with_forced m w forced tables pending in
        let may : AreAllowed m v (gates_of gates) = subst (λ (l : List Gate). AreAllowed m v (gates_of l)) (round_same m copied w forced tables pending most) (rounds (may_flush m copied) most v running stable) in
        let goes = gates_go v used gates running may in
        record { allowed = goes.allowed; through = λ e. let done = goes.through e in record { running = done.running; less = done.less } }))
        (λ v goes. goes)

    -- what the files and the memory of a store may take as its round
    pub round_allowed_behind : (w : World O) → IsRunning m w → AreAllowed m (run m w (force_steps m w)) (gates_of (round_gates m (may_flush m copied) most w))
    round_allowed_behind w is =
        let gates = round_gates m (may_flush m copied) most w in
        let P : World O → Type 0 = λ v. AreAllowed m v (gates_of gates) in
        (force_goes m keeps w 0 P is (λ forced tables pending running stable.
        let v = with_forced m w forced tables pending in
        subst (λ (l : List Gate). AreAllowed m v (gates_of l)) (round_same m copied w forced tables pending most) (rounds (may_flush m copied) most v running stable))).through refl
