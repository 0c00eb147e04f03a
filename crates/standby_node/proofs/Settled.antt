-- Worlds of which all members are stable and no checkpoint waits, and the calls that leave such ones.
use Rattle.std.proofs.Common.{◌≡◌, sym, subst, ap, ℕ, zero, suc, ◌≤◌, false, ◌+◌, List, [], ◌∷◌, ◌++◌, length, take, refl, arith, length-take}
use Rattle.std.specs.Prelude.{⊤, ◌^◌, max, nat_lt, nat_le, if◌then◌else◌}
use Rattle.std.proofs.lemmas.Bool.{cond_both, ltb-false, or_parts}
use Rattle.oper_core.specs.Meaning.{Meaning}
use Rattle.formats.specs.Limits.{log_limit, lsn_end}
use Rattle.explain_core.specs.History.{Member}
use Rattle.explain_core.specs.RoundGates.{Gate, gates_of, removals_of}
use Rattle.explain_core.specs.RunLaws.{Begins, begins-each, run-append}
use Rattle.explain_core.specs.TurnLaws.{by_thin_turn}
use Rattle.explain_core.specs.Turns.{free_gates, must_install, thin_turn, turn, turns}
use Rattle.explain_core.specs.World.{Starts, Step, World, run, step}
use Rattle.explain_core.specs.World.Step.{Begin, End, Append, Block_gate, Checkpoint, Slot_gate, Removal, Header_gate, Replay, Crash}
use Rattle.explain_core.specs.declared.marks.Marks.{Marks}
use Rattle.running_store.specs.Courses.{Course, buffered, course, force_steps, grown, is_through, room_steps, waits}
use Rattle.running_store.specs.Courses.Stop.{Full, Through, Worn}
use Rattle.running_store.specs.Calls.Rewrites.{checkpoint_length, new_base, rewrite_course, trimmed, trimmed_file}
use Rattle.checkpointing.specs.Courses.{taking_course, checkpoint_steps, checkpoint_course, logged_course, trim_course}
use Rattle.redo_pass.specs.Redo.{redo_steps}
use Rattle.restart.specs.Courses.{redo_course, restart_course}
use Rattle.store_engine.specs.Following.{thin_course}

-- the world has these members, all of them stable, and no checkpoint waits
pub record IsSettledAt {O : Type 0} (h : List (Member O)) (w : World O) : Type 0 where
  pub history : w.history ≡ h
  pub forced : w.forced ≡ length h
  pub none : w.pending ≡ []

-- a step that leaves it so
abbrev pub IsCalm : {O : Type 0} → Step O → Type 0
IsCalm Begin = ⊥
IsCalm End = ⊥
IsCalm (Append member) = ⊥
IsCalm Block_gate = ⊤
IsCalm Checkpoint = ⊥
IsCalm (Slot_gate node x) = ⊤
IsCalm (Removal node) = ⊤
IsCalm (Header_gate base) = ⊤
IsCalm Replay = ⊤
IsCalm Crash = ⊥

abbrev pub AreCalm : {O : Type 0} → List (Step O) → Type 0
AreCalm [] = ⊤
AreCalm (s ∷ steps) = IsCalm s × AreCalm steps

module _ {O : Type 0} where
  calm_append : (xs ys : List (Step O)) → AreCalm xs → AreCalm ys → AreCalm (xs ++ ys)
  calm_append [] ys one two = two
  calm_append (x ∷ xs) ys one two = (one.0, calm_append xs ys one.1 two)

  pub calm_front : (steps taken : List (Step O)) → Begins steps taken → AreCalm steps → AreCalm taken
  calm_front steps taken begins are = begins-each IsCalm AreCalm tt (λ s more one rest. (one, rest)) (λ s more both. both) steps taken begins are

module _ {O : Type 0} (m : Meaning O) where
  step_settled : (h : List (Member O)) (w : World O) (s : Step O) → IsCalm s → IsSettledAt h w → IsSettledAt h (step m w s)
  unfolding step
  step_settled h w Begin calm is = absurd calm
  step_settled h w End calm is = absurd calm
  step_settled h w (Append member) calm is = absurd calm
  step_settled h w Block_gate calm is = record { history = is.history; forced = ap (λ (l : List (Member O)). length l) is.history; none = refl }
  step_settled h w Checkpoint calm is = absurd calm
  step_settled h w (Slot_gate node x) calm is = record { history = is.history; forced = is.forced; none = is.none }
  step_settled h w (Removal node) calm is = record { history = is.history; forced = is.forced; none = is.none }
  step_settled h w (Header_gate base) calm is = record { history = is.history; forced = is.forced; none = refl }
  step_settled h w Replay calm is = record { history = is.history; forced = is.forced; none = is.none }
  step_settled h w Crash calm is = absurd calm

  pub run_settled : (h : List (Member O)) (w : World O) (steps : List (Step O)) → AreCalm steps → IsSettledAt h w → IsSettledAt h (run m w steps)
  unfolding run
  run_settled h w [] are is = is
  run_settled h w (s ∷ steps) are is = run_settled h (step m w s) steps are.1 (step_settled h w s are.0 is)

  -- ---- a turn for which nothing is logged, and a force

  calm_gates : (gates : List Gate) → AreCalm {O = O} (gates_of gates)
  calm_gates [] = tt
  calm_gates (g ∷ gates) = (tt, calm_gates gates)

  calm_removals : (gates : List Gate) → AreCalm {O = O} (removals_of gates)
  calm_removals [] = tt
  calm_removals (g ∷ gates) = (tt, calm_removals gates)

  turn_is_calm : (most : ℕ) (w : World O) → AreCalm (thin_turn m most w)
  turn_is_calm most w =
      let gates = free_gates m (max 1 most) w in
      by_thin_turn m (λ (l : List (Step O)). AreCalm l) most w (λ thin some. calm_append (gates_of gates) (removals_of gates) (calm_gates gates) (calm_removals gates)) (λ thin none. (tt, tt)) (λ no_thin. tt)

  pub thin_course_calm : (most : ℕ) (w : World O) (used : ℕ) → AreCalm (thin_course m most w used).steps
  thin_course_calm most w used = turn_is_calm most w

  pub force_calm : (w : World O) → AreCalm (force_steps m w)
  force_calm w = cond_both (waits m w) (Block_gate ∷ []) [] (λ (l : List (Step O)). AreCalm l) (λ is. (tt, tt)) (λ is. tt)

  no_tables : (l : List Starts) → nat_lt 0 (length l) ≡ false → l ≡ []
  no_tables [] is = refl
  no_tables (t ∷ l) is = absurd (omega (arith, ltb-false _ _ is))

  -- after it all is stable
  pub force_settled : (w : World O) → w.forced ≤ length w.history → IsSettledAt w.history (run m w (force_steps m w))
  unfolding run step
  force_settled w within =
      cond_both (waits m w) (Block_gate ∷ []) [] (λ (l : List (Step O)). IsSettledAt w.history (run m w l)) (λ some. record { history = refl; forced = refl; none = refl }) (λ none.
      let parts = or_parts (nat_lt w.forced (length w.history)) (nat_lt 0 (length w.pending)) none in
      record { history = refl; forced = omega (arith, within, ltb-false _ _ parts.0); none = no_tables w.pending parts.1 })

  -- ---- a checkpoint

  room_calm : (w : World O) (n : ℕ) → AreCalm (room_steps m w n)
  room_calm w n = cond_both (nat_lt (2 ^ 30) (buffered m w + n)) (force_steps m w) [] (λ (l : List (Step O)). AreCalm l) (λ is. force_calm w) (λ is. tt)

  logged_settled : (h : List (Member O)) (w : World O) (used : ℕ) → IsSettledAt h w → IsSettledAt h (run m w (logged_course m w used).steps)
  unfolding run step
  logged_settled h w used is =
      let n = checkpoint_length m w in
      cond_both (nat_lt log_limit (grown m w used n)) (course [] used (Full used (n + 5) log_limit)) (course checkpoint_steps (grown m w used n) Through) (λ (c : Course O). IsSettledAt h (run m w c.steps)) (λ full. is)
      (λ room. record { history = is.history; forced = ap (λ (l : List (Member O)). length l) is.history; none = refl })

  pub taking_settled : (h : List (Member O)) (w : World O) (used : ℕ) → IsSettledAt h w → IsSettledAt h (run m w (taking_course m w used).steps)
  taking_settled h w used is =
      let room : List (Step O) = room_steps m w (checkpoint_length m w) in
      let v : World O = run m w room in
      subst (λ (u : World O). IsSettledAt h u) (sym (run-append m w room (logged_course m v used).steps)) (logged_settled h v used (run_settled h w room (room_calm w (checkpoint_length m w)) is))

  pub checkpoint_settled : (h : List (Member O)) (w : World O) (used : ℕ) → IsSettledAt h w → IsSettledAt h (run m w (checkpoint_course m w used).steps)
  checkpoint_settled h w used is =
      let c : Course O = taking_course m w used in
      let v : World O = run m w c.steps in
      let checkpointed = taking_settled h w used is in
      cond_both (is_through c.stop) c (course (c.steps ++ force_steps m v) c.used c.stop) (λ (k : Course O). IsSettledAt h (run m w k.steps)) (λ through. checkpointed)
      (λ stopped. subst (λ (u : World O). IsSettledAt h u) (sym (run-append m w c.steps (force_steps m v))) (run_settled h v (force_steps m v) (force_calm v) checkpointed))

  -- ---- a trim

  rewrite_calm : (w : World O) (used : ℕ) → AreCalm (rewrite_course m w used).steps
  rewrite_calm w used =
      cond_both (nat_lt log_limit (trimmed_file m w)) (course [] used (Full used (trimmed_file m w) log_limit)) (course (Header_gate (new_base m w) ∷ []) (trimmed m w) Through) (λ (c : Course O). AreCalm c.steps) (λ is. tt) (λ is. (tt, tt))

  pub trim_calm : (epoch : ℕ) (w : World O) (used : ℕ) → AreCalm (trim_course m epoch w used).steps
  trim_calm epoch w used =
      let v : World O = run m w (force_steps m w) in
      cond_both (nat_le lsn_end epoch) (course [] used (Worn epoch)) (course (force_steps m w ++ (rewrite_course m v used).steps) (rewrite_course m v used).used (rewrite_course m v used).stop) (λ (c : Course O). AreCalm c.steps) (λ is. tt)
      (λ is. calm_append (force_steps m w) (rewrite_course m v used).steps (force_calm w) (rewrite_calm v used))

  -- ---- a restart

  turn_calm : (marks : Marks) (w : World O) → AreCalm (turn m marks w)
  turn_calm marks w =
      cond_both (must_install m marks w) (thin_turn m marks.most w) (if nat_le w.next (length w.history) then Replay ∷ [] else []) (λ (l : List (Step O)). AreCalm l) (λ is. turn_is_calm marks.most w)
      (λ is. cond_both (nat_le w.next (length w.history)) (Replay ∷ []) [] (λ (l : List (Step O)). AreCalm l) (λ more. (tt, tt)) (λ done. tt))

  turns_calm : (marks : Marks) (n : ℕ) (w : World O) → AreCalm (turns m marks n w)
  unfolding turns
  turns_calm marks zero w = tt
  turns_calm marks (suc n) w = calm_append (turn m marks w) (turns m marks n (run m w (turn m marks w))) (turn_calm marks w) (turns_calm marks n (run m w (turn m marks w)))

  -- after a crash what was stable is all
  crash_settled : (w : World O) → w.forced ≤ length w.history → IsSettledAt (take w.forced w.history) (step m w Crash)
  unfolding step
  crash_settled w within = record { history = refl; forced = omega (arith, within, length-take w.forced w.history); none = refl }

  -- and so it is after a restart
  pub restart_settled : (w : World O) → w.forced ≤ length w.history → (marks : Marks) (used : ℕ) → IsSettledAt (take w.forced w.history) (run m w (restart_course m marks w used).steps)
  unfolding run
  restart_settled w within marks used =
      let h = take w.forced w.history in
      let first : List (Step O) = (redo_course m marks w used).steps in
      let v : World O = run m w first in
      let begun = run_settled h (step m w Crash) (redo_steps m marks (step m w Crash)) (turns_calm marks _ (step m w Crash)) (crash_settled w within) in
      subst (λ (u : World O). IsSettledAt h u) (sym (run-append m w first (taking_course m v used).steps)) (taking_settled h v used begun)
