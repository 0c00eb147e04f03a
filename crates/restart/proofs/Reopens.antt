-- A restart may be made in every sound world.
use Rattle.std.proofs.Common.{◌≡◌, ◌∙◌, sym, ap, subst, ℕ, ◌+◌, ◌-◌, ◌*◌, ◌^◌, nat_lt, Bool, true, false, if◌then◌else◌, List, [], ◌∷◌, refl}
use Rattle.oper_core.specs.Meaning.{Meaning}
use Rattle.formats.specs.Limits.{log_limit}
use Rattle.explain_core.specs.History.{Member, commands_of}
use Rattle.explain_core.specs.KeptLog.{turns_kept, kept_stable}
use Rattle.explain_core.specs.RunLaws.{run-append, allowed-append}
use Rattle.explain_core.specs.Sound.{IsSound}
use Rattle.explain_core.specs.World.{World, Step, step, run, end_of, IsLive, IsAllStable, AreAllowed}
use Rattle.explain_core.specs.World.Step.{Block_gate, Crash}
use Rattle.explain_core.specs.declared.marks.Marks.{Marks}
use Rattle.standing.specs.Crashed.{crashed-stable}
use Rattle.running_store.specs.Courses.{Course, course, waits, buffered, force_steps, room_steps, grown}
use Rattle.running_store.specs.Courses.Stop.{Through, Full}
use Rattle.running_store.specs.Calls.Rewrites.{checkpoint_length}
use Rattle.running_store.specs.Running.{IsRunning, MayBeTaken}
use Rattle.checkpointing.specs.Courses.{checkpoint_steps, logged_course, closing_course}
use Rattle.redo_pass.specs.Redo.{redo_steps, redone_world}
use Rattle.restart.specs.Courses.{redo_course, restart_course}
use Rattle.restart.specs.Reopened.{IsReopened}
use Rattle.restart.proofs.Restarts.{crash_twice}

either : {A : Type 0} (P : A → Type 0) (b : Bool) (x y : A) → P x → P y → P (if b then x else y)
either P true x y p q = p
either P false x y p q = q

module _ {O : Type 0} (m : Meaning O) where
  -- after these steps all is stable if it was
  abbrev KeepStable : World O → List (Step O) → Type 0
  KeepStable w steps = IsAllStable w → IsAllStable (run m w steps)

  none_stable : (w : World O) → KeepStable w []
  unfolding run
  none_stable w stable = stable

  force_stable : (w : World O) → KeepStable w (force_steps m w)
  unfolding run step
  force_stable w = either (KeepStable w) (waits m w) (Block_gate ∷ []) [] (λ stable. (refl, stable.1)) (none_stable w)

  logged_stable : (w : World O) (used : ℕ) → KeepStable w (logged_course m w used).steps
  unfolding run step
  logged_stable w used =
      let n = checkpoint_length m w in
      either (λ (c : Course O). KeepStable w c.steps) (nat_lt log_limit (grown m w used n)) (course [] used (Full used (n + 5) log_limit)) (course checkpoint_steps (grown m w used n) Through) (none_stable w) (λ stable. (refl, stable.1))

  -- the checkpoint with which a restart ends
  closing_stable : (w : World O) (used : ℕ) → KeepStable w (closing_course m w used).steps
  closing_stable w used stable =
      let n = checkpoint_length m w in
      let room = room_steps m w n in
      let roomed = either (KeepStable w) (nat_lt (2 ^ 30) (buffered m w + n)) (force_steps m w) [] (force_stable w) (none_stable w) stable in
      subst (λ (v : World O). IsAllStable v) (sym (run-append m w room (logged_course m (run m w room) used).steps)) (logged_stable (run m w room) used roomed)

  module _ (marks : Marks) (used : ℕ) (w : World O) (sound : IsSound m (step m w Crash)) where
    abbrev crashed : World O
    crashed = step m w Crash

    abbrev later : World O
    later = redone_world m marks crashed

    pub now_stable : IsAllStable crashed
    now_stable = crashed-stable m crashed (crash_twice m w) sound

    -- the world after the redo
    pub later_running : IsSound m later → IsLive later → IsRunning m later
    later_running sound_later live = record { sound = sound_later; live = live; alone = (kept_stable crashed later (turns_kept m marks (2 * (end_of crashed - crashed.next)) crashed) now_stable).1 }

    pub all_allowed : AreAllowed m crashed (redo_steps m marks crashed) → ((used : ℕ) → MayBeTaken m later (closing_course m later used).steps) → AreAllowed m w (restart_course m marks w used).steps
    unfolding run
    all_allowed turns checkpoint = allowed-append m w (redo_course m marks w used).steps (closing_course m later used).steps (tt, turns) (checkpoint used).allowed

    pub reopened : ((used : ℕ) → MayBeTaken m later (closing_course m later used).steps) → IsReopened m w (run m w (restart_course m marks w used).steps)
    unfolding run step
    reopened checkpoint =
        let steps = (closing_course m later used).steps in
        let kept = turns_kept m marks (2 * (end_of crashed - crashed.next)) crashed in
        let split : run m w (restart_course m marks w used).steps ≡ run m later steps = run-append m w (redo_course m marks w used).steps steps in
        let is : IsReopened m w (run m later steps) = record {
          running = (checkpoint used).running;
          commands = (checkpoint used).commands ∙ ap (λ (h : List (Member O)). commands_of h) kept.history;
          stable = closing_stable later used (kept_stable crashed later kept now_stable);
        } in
        subst (λ (v : World O). IsReopened m w v) (sym split) is
