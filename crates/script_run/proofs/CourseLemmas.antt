-- The courses of installs, drains, checkpoints and trims: what may stop them, what they log, and that they add no command.
use Rattle.std.proofs.Common.{◌≡◌, ◌∙◌, ap, refl, ℕ, zero, suc, ◌+◌, ◌-◌, ◌<◌, arith, Bool, true, false, List, [], ◌∷◌, ◌++◌, Option, None, Some}
use Rattle.std.specs.Prelude.{◌^◌, ◌&&◌, max, nat_lt, nat_le, if◌then◌else◌}
use Rattle.std.proofs.lemmas.Bool.{cond_both}
use Rattle.std.proofs.lemmas.Bool.Decides.{nat_tests}
use Rattle.oper_core.specs.Meaning.{Meaning}
use Rattle.explain_core.specs.History.Member.{Command as Logged_command}
use Rattle.explain_core.specs.Turns.{count_below, dirty_in}
use Rattle.explain_core.specs.World.{World, Step, run, end_of}
use Rattle.explain_core.specs.World.Step.{Append, Begin, Block_gate, Header_gate}
use Rattle.running_store.specs.Courses.{Course, course, is_through, and_then, waits, buffered, grown, force_steps, force_course, room_steps, placed, cached_length, identity_length, identity_steps}
use Rattle.cache_manager.specs.InstallCourses.{identity_course, identities, must_log, others, finish_steps, first_course, rounds, has_members, install_course, round_limit, round_course, is_next_due, readied, ready_turn, removals, turn_course, turns, is_next_workless, workless_nodes, logged_by, logged_in}
use Rattle.running_store.specs.Courses.Stop.{Through, Full, At_end}
use Rattle.running_store.specs.Courses.Laws.{behind_both}
use Rattle.running_store.specs.Running.{AreUpkeep}
use Rattle.running_store.specs.Calls.Rewrites.{checkpoint_length, new_base, rewrite_course, rewrite_within, trimmed, trimmed_file}
use Rattle.running_store.specs.Calls.Commands.{command_length}
use Rattle.cache_manager.specs.Upkeep.{upkeep_append, upkeep_either, upkeep_then, upkeep_force, upkeep_room, upkeep_install, upkeep_turn, upkeep_drain}
use Rattle.formats.specs.Limits.{lsn_end}
use Rattle.checkpointing.specs.Courses.{taking_course, checkpoint_steps, checkpoint_course, logged_course, trim_course, trim_due, trim_within, turn_due, unstopped, upkeep_course as tending_course}
use Rattle.checkpointing.specs.declared.due.Due.{Due}
use Rattle.execution.specs.Courses.{append_course, needed, unplaced_steps}
use Rattle.script_lines.specs.Grammar.{Request}
use Rattle.script_lines.specs.declared.line.Line.TheVariants.{Keep}
use Rattle.script_lines.specs.declared.line.Upkeep.TheVariants.{Install as install, Drain as drain, Checkpoint as checkpoint, Trim as trim}
use Rattle.store_engine.specs.Calls.{begin_course}
use Rattle.shell_base.specs.Store.{Command}
use Rattle.script_run.specs.Replies.{IsOver, IsUpkeep}
use Rattle.script_run.specs.Found.{MayStop}
use Rattle.script_run.specs.Stages.{upkeep_course}

both_none : (xs ys : List ℕ) → xs ++ ys ≡ [] → (xs ≡ []) × (ys ≡ [])
both_none [] ys none = (refl, none)
both_none (x ∷ xs) ys none = absurd cc

-- what may stop one or the other may stop both
stop_either : (r : Request) (b : Bool) (c e : Course Command) → MayStop r c.stop → MayStop r e.stop → MayStop r (if b then c else e).stop
stop_either r b c e first second = cond_both b c e (λ (c : Course Command). MayStop r c.stop) (λ is. first) (λ is. second)

module _ (m : Meaning Command) where
  stop_then : (r : Request) (w : World Command) (first : Course Command) (next : World Command → ℕ → Course Command) → MayStop r first.stop → ((v : World Command) (used : ℕ) → MayStop r (next v used).stop) → MayStop r (and_then m w first next).stop
  stop_then r w first next a b =
      let second = next (run m w first.steps) first.used in
      behind_both (λ (c : Course Command). MayStop r c.stop) first second first.stop (λ on. b (run m w first.steps) first.used) (λ ends. a)

  -- of a request that takes numbers
  module _ (r : Request) (takes : (number : ℕ) → MayStop r (At_end number)) (over : (used need limit : ℕ) → limit < used + need → IsOver r used need limit) where
    stop_placed : (w : World Command) (used n : ℕ) (steps : List (Step Command)) → MayStop r (placed m w used (2 ^ 48) n true steps).stop
    stop_placed w used n steps =
        stop_either r (nat_lt (2 ^ 48) (grown m w used n)) (course (force_steps m w) used (Full used (n + 5) (2 ^ 48)))
        (if true && nat_le (2 ^ 62) (end_of w) then course (force_steps m w) used (At_end (end_of w)) else course steps (grown m w used n) Through) (refl, over used (n + 5) (2 ^ 48))
        (stop_either r (true && nat_le (2 ^ 62) (end_of w)) (course (force_steps m w) used (At_end (end_of w))) (course steps (grown m w used n) Through) (takes (end_of w)) tt)

    stop_identity : (x : ℕ) (w : World Command) (used : ℕ) → MayStop r (identity_course m x w used).stop
    stop_identity x w used =
        let n = identity_length (cached_length m w x) in
        stop_then r w (course (room_steps m w n) used Through) (λ v used. placed m v used (2 ^ 48) n true (identity_steps m x v)) tt (λ v used. stop_placed v used n (identity_steps m x v))

    stop_identities : (objects : List ℕ) (w : World Command) (used : ℕ) → MayStop r (identities m objects w used).stop
    stop_identities [] w used = tt
    stop_identities (x ∷ objects) w used = stop_then r w (identity_course m x w used) (λ v used. identities m objects v used) (stop_identity x w used) (λ v used. stop_identities objects v used)

    stop_rounds : (copies n : ℕ) (w : World Command) (used : ℕ) → MayStop r (rounds m copies n w used).stop
    stop_rounds copies zero w used = tt
    stop_rounds copies (suc n) w used =
        stop_either r (must_log m copies w) (and_then m w (identities m (others m copies w) w used) (λ v used. rounds m copies n v used)) (course (finish_steps m w) used Through)
        (stop_then r w (identities m (others m copies w) w used) (λ v used. rounds m copies n v used) (stop_identities (others m copies w) w used) (λ v used. stop_rounds copies n v used)) tt

    stop_install : (copies : ℕ) (w : World Command) (used : ℕ) → MayStop r (install_course m copies w used).stop
    stop_install copies w used = stop_either r (has_members m w) (rounds m copies m.objects w used) (course [] used Through) (stop_rounds copies m.objects w used) tt

    stop_nodes : (n : ℕ) (w : World Command) (used : ℕ) → MayStop r (workless_nodes m n w used).stop
    stop_nodes zero w used = tt
    stop_nodes (suc n) w used =
        let one = course (finish_steps m w) used Through in
        stop_either r (is_next_workless m w) (and_then m w one (λ v used. workless_nodes m n v used)) (course [] used Through) (stop_then r w one (λ v used. workless_nodes m n v used) tt (λ v used. stop_nodes n v used)) tt

    stop_first : (most copies : ℕ) (w : World Command) (used : ℕ) → MayStop r (first_course m copies most w used).stop
    stop_first most copies w used = stop_either r (is_next_due m copies w) (round_course m copies most w used) (install_course m copies w used) tt (stop_install copies w used)

    stop_ready : (most copies : ℕ) (w : World Command) (used : ℕ) → MayStop r (ready_turn m copies most w used).stop
    stop_ready most copies w used =
        let first = first_course m copies most w used in
        let n = most - removals first.steps in
        stop_either r (has_members m w) (and_then m w first (λ v used. workless_nodes m n v used)) (course [] used Through) (stop_then r w first (λ v used. workless_nodes m n v used) (stop_first most copies w used) (λ v used. stop_nodes n v used)) tt

    stop_turn : (most copies : ℕ) (w : World Command) (used : ℕ) → MayStop r (turn_course m copies most w used).stop
    stop_turn most copies w used =
        stop_then r w (identities m (readied m copies most w) w used) (λ v used. ready_turn m copies most v used) (stop_identities (readied m copies most w) w used) (λ v used. stop_ready most copies v used)

    stop_turns : (most copies n : ℕ) (w : World Command) (used : ℕ) → MayStop r (turns m copies most n w used).stop
    stop_turns most copies zero w used = tt
    stop_turns most copies (suc n) w used =
        stop_either r (has_members m w) (and_then m w (turn_course m copies most w used) (λ v used. turns m copies most n v used)) (course [] used Through)
        (stop_then r w (turn_course m copies most w used) (λ v used. turns m copies most n v used) (stop_turn most copies w used) (λ v used. stop_turns most copies n v used)) tt

  stop_taking : (w : World Command) (used : ℕ) → MayStop (Keep checkpoint) (taking_course m w used).stop
  stop_taking w used =
      let n = checkpoint_length m w in
      stop_then (Keep checkpoint) w (course (room_steps m w n) used Through) (logged_course m) tt
      (λ v used.
      let k = checkpoint_length m v in
      stop_either (Keep checkpoint) (nat_lt (2 ^ 48) (grown m v used k)) (course [] used (Full used (k + 5) (2 ^ 48))) (course checkpoint_steps (grown m v used k) Through) (refl, λ over. over) tt)

  stop_checkpoint : (w : World Command) (used : ℕ) → MayStop (Keep checkpoint) (checkpoint_course m w used).stop
  stop_checkpoint w used =
      let c = taking_course m w used in
      stop_either (Keep checkpoint) (is_through c.stop) c (course (c.steps ++ force_steps m (run m w c.steps)) c.used c.stop) (stop_taking w used) (stop_taking w used)

  stop_trim : (epoch : ℕ) (w : World Command) (used : ℕ) → MayStop (Keep trim) (trim_course m epoch w used).stop
  stop_trim epoch w used =
      cond_both (nat_le lsn_end epoch) _ _ (λ (c : Course Command). MayStop (Keep trim) c.stop) (λ worn. tt)
      (λ left. stop_then (Keep trim) w (force_course m w used) (rewrite_course m) tt
      (λ v used. cond_both (nat_lt (2 ^ 48) (trimmed_file m v)) _ _ (λ (c : Course Command). MayStop (Keep trim) c.stop)
      (λ over. let high : 2 ^ 48 < trimmed_file m v = grind (arith, nat_tests, over) in (refl, λ more. high)) (λ fits. tt)))

  -- what may stop a request's course
  pub may_stop : (epoch copies : ℕ) (r : Request) → IsUpkeep r → (w : World Command) (used : ℕ) → MayStop r (upkeep_course epoch copies r m w used).stop
  may_stop epoch copies (Keep install) is w used = stop_install (Keep install) (λ n. tt) (λ a b c more. more) copies w used
  may_stop epoch copies (Keep drain) is w used = stop_turns (Keep drain) (λ n. tt) (λ a b c more. more) (round_limit m) copies (count_below (end_of w) w.graph + dirty_in m w) w used
  may_stop epoch copies (Keep checkpoint) is w used = stop_checkpoint w used
  may_stop epoch copies (Keep trim) is w used = stop_trim epoch w used
  may_stop epoch copies r is w used = absurd is

  upkeep_taking : (w : World Command) (used : ℕ) → AreUpkeep (taking_course m w used).steps
  upkeep_taking w used =
      let n = checkpoint_length m w in
      upkeep_then m w (course (room_steps m w n) used Through) (logged_course m) (upkeep_room m w n)
      (λ v used.
      let k = checkpoint_length m v in
      upkeep_either m (nat_lt (2 ^ 48) (grown m v used k)) (course [] used (Full used (k + 5) (2 ^ 48))) (course checkpoint_steps (grown m v used k) Through) tt (tt, (tt, tt)))

  upkeep_checkpoint : (w : World Command) (used : ℕ) → AreUpkeep (checkpoint_course m w used).steps
  upkeep_checkpoint w used =
      let c = taking_course m w used in
      upkeep_either m (is_through c.stop) c (course (c.steps ++ force_steps m (run m w c.steps)) c.used c.stop) (upkeep_taking w used)
      (upkeep_append m c.steps (force_steps m (run m w c.steps)) (upkeep_taking w used) (upkeep_force m (run m w c.steps)))

  upkeep_trim : (most epoch : ℕ) (w : World Command) (used : ℕ) → AreUpkeep (trim_within m most epoch w used).steps
  upkeep_trim most epoch w used =
      cond_both (nat_le lsn_end epoch) _ _ (λ (c : Course Command). AreUpkeep c.steps) (λ worn. tt)
      (λ left. upkeep_then m w (force_course m w used) (rewrite_within m most) (upkeep_force m w)
      (λ v used. upkeep_either m (nat_lt most (trimmed_file m v)) (course [] used (Full used (trimmed_file m v) most)) (course (Header_gate (new_base m v) ∷ []) (trimmed m v) Through) tt (tt, tt)))

  -- nor does what is due before a line is read
  upkeep_trim_due : (due : Option ℕ) (epoch : ℕ) (w : World Command) (used : ℕ) → AreUpkeep (trim_due m due epoch w used).steps
  upkeep_trim_due None epoch w used = tt
  upkeep_trim_due (Some most) epoch w used = upkeep_trim most epoch w used

  upkeep_turn_due : (due : Option ℕ) (copies : ℕ) (w : World Command) (used : ℕ) → AreUpkeep (turn_due m due copies w used).steps
  upkeep_turn_due None copies w used = tt
  upkeep_turn_due (Some most) copies w used = upkeep_turn m copies (max 1 most) w used

  pub upkeep_due : (due : Due) (epoch copies : ℕ) (w : World Command) (used : ℕ) → AreUpkeep (tending_course m due epoch copies w used).steps
  upkeep_due due epoch copies w used =
      upkeep_then m w (unstopped (trim_due m due.trim epoch w used)) (λ v n. unstopped (turn_due m due.turn copies v n)) (upkeep_trim_due due.trim epoch w used) (λ v n. upkeep_turn_due due.turn copies v n)

  -- it adds no command
  pub are_upkeep : (epoch copies : ℕ) (r : Request) → IsUpkeep r → (w : World Command) (used : ℕ) → AreUpkeep (upkeep_course epoch copies r m w used).steps
  are_upkeep epoch copies (Keep install) is w used = upkeep_install m copies w used
  are_upkeep epoch copies (Keep drain) is w used = upkeep_drain m copies w used
  are_upkeep epoch copies (Keep checkpoint) is w used = upkeep_checkpoint w used
  are_upkeep epoch copies (Keep trim) is w used = upkeep_trim (2 ^ 48) epoch w used
  are_upkeep epoch copies r is w used = absurd is

  -- steps that log no identity write
  logged_append : (xs ys : List (Step Command)) → logged_in xs ≡ [] → logged_in ys ≡ [] → logged_in (xs ++ ys) ≡ []
  logged_append [] ys first second = second
  logged_append (x ∷ xs) ys first second =
      let none = both_none (logged_by x) (logged_in xs) first in
      ap (λ (l : List ℕ). l ++ logged_in (xs ++ ys)) none.0 ∙ logged_append xs ys none.1 second

  logged_if : (b : Bool) (xs ys : List (Step Command)) → logged_in xs ≡ [] → logged_in ys ≡ [] → logged_in (if b then xs else ys) ≡ []
  logged_if b xs ys first second = cond_both b xs ys (λ (l : List (Step Command)). logged_in l ≡ []) (λ is. first) (λ is. second)

  logged_either : (b : Bool) (c e : Course Command) → logged_in c.steps ≡ [] → logged_in e.steps ≡ [] → logged_in (if b then c else e).steps ≡ []
  logged_either b c e first second = cond_both b c e (λ (c : Course Command). logged_in c.steps ≡ []) (λ is. first) (λ is. second)

  logged_then : (w : World Command) (first : Course Command) (next : World Command → ℕ → Course Command) → logged_in first.steps ≡ [] → ((v : World Command) (used : ℕ) → logged_in (next v used).steps ≡ []) → logged_in (and_then m w first next).steps ≡ []
  logged_then w first next a b =
      let second = next (run m w first.steps) first.used in
      behind_both (λ (c : Course Command). logged_in c.steps ≡ []) first second first.stop (λ on. logged_append first.steps second.steps a (b (run m w first.steps) first.used)) (λ ends. a)

  pub logged_force : (w : World Command) → logged_in (force_steps m w) ≡ []
  logged_force w = logged_if (waits m w) (Block_gate ∷ []) [] refl refl

  logged_room : (w : World Command) (n : ℕ) → logged_in (room_steps m w n) ≡ []
  logged_room w n = logged_if (nat_lt (2 ^ 30) (buffered m w + n)) (force_steps m w) [] (logged_force w) refl

  logged_unplaced : (grouped : Bool) (w : World Command) → logged_in (unplaced_steps m grouped w) ≡ []
  logged_unplaced true w = refl
  logged_unplaced false w = logged_force w

  pub logged_command : (grouped : Bool) (limit : ℕ) (op : Command) (w : World Command) (used : ℕ) → logged_in (append_course m grouped limit op w used).steps ≡ []
  logged_command grouped limit op w used =
      let n = command_length m op in
      let without = unplaced_steps m grouped w in
      let none = logged_unplaced grouped w in
      let appended = course (Append (Logged_command op) ∷ []) (grown m w used n) Through in
      let last = course without used (At_end (end_of w)) in
      logged_either (nat_lt limit (grown m w used n)) (course without used (Full used (needed m grouped w n) limit)) (if nat_le (2 ^ 62) (end_of w) then last else appended) none
      (logged_either (nat_le (2 ^ 62) (end_of w)) last appended none refl)

  pub logged_begin : (w : World Command) (used : ℕ) → logged_in (begin_course m w used).steps ≡ []
  logged_begin w used = logged_append (force_steps m w) (Begin ∷ []) (logged_force w) refl

  logged_taking : (w : World Command) (used : ℕ) → logged_in (taking_course m w used).steps ≡ []
  logged_taking w used =
      let n = checkpoint_length m w in
      logged_then w (course (room_steps m w n) used Through) (logged_course m) (logged_room w n)
      (λ v used.
      let k = checkpoint_length m v in
      logged_either (nat_lt (2 ^ 48) (grown m v used k)) (course [] used (Full used (k + 5) (2 ^ 48))) (course checkpoint_steps (grown m v used k) Through) refl refl)

  pub logged_checkpoint : (w : World Command) (used : ℕ) → logged_in (checkpoint_course m w used).steps ≡ []
  logged_checkpoint w used =
      let c = taking_course m w used in
      logged_either (is_through c.stop) c (course (c.steps ++ force_steps m (run m w c.steps)) c.used c.stop) (logged_taking w used)
      (logged_append c.steps (force_steps m (run m w c.steps)) (logged_taking w used) (logged_force (run m w c.steps)))

  pub logged_trim : (epoch : ℕ) (w : World Command) (used : ℕ) → logged_in (trim_course m epoch w used).steps ≡ []
  logged_trim epoch w used =
      cond_both (nat_le lsn_end epoch) _ _ (λ (c : Course Command). logged_in c.steps ≡ []) (λ worn. refl)
      (λ left. logged_then w (force_course m w used) (rewrite_course m) (logged_force w)
      (λ v used. logged_either (nat_lt (2 ^ 48) (trimmed_file m v)) (course [] used (Full used (trimmed_file m v) (2 ^ 48))) (course (Header_gate (new_base m v) ∷ []) (trimmed m v) Through) refl refl))
