-- No course but that of a command appends one.
use Rattle.std.proofs.Common.{ℕ, zero, suc, ◌+◌, Bool, List, [], ◌∷◌, ◌++◌, length, Option, None, Some}
use Rattle.std.specs.Prelude.{◌*◌, ◌-◌, max, nat_lt, nat_le, if◌then◌else◌}
use Rattle.std.proofs.lemmas.Bool.{cond_both}
use Rattle.oper_core.specs.Meaning.{Meaning}
use Rattle.formats.specs.Limits.{log_limit}
use Rattle.explain_core.specs.RoundGates.{Gate, gates_of, removals_of}
use Rattle.explain_core.specs.TurnLaws.{by_thin_turn}
use Rattle.explain_core.specs.Turns.{turn, turns, thin_turn, free_gates, must_install}
use Rattle.explain_core.specs.World.{World, Step, run, end_of}
use Rattle.explain_core.specs.World.Step.{Replay, Header_gate}
use Rattle.explain_core.specs.declared.marks.Marks.{Marks}
use Rattle.running_store.specs.Courses.{Course, course, grown, is_through, force_steps, force_course, room_steps}
use Rattle.running_store.specs.Courses.Stop.{Through, Full}
use Rattle.running_store.specs.Running.{AreUpkeep}
use Rattle.running_store.specs.Calls.Rewrites.{checkpoint_length, new_base, rewrite_within, trimmed, trimmed_file}
use Rattle.cache_manager.specs.Upkeep.{upkeep_append, upkeep_either, upkeep_force, upkeep_room, upkeep_then, upkeep_turn}
use Rattle.formats.specs.Limits.{lsn_end}
use Rattle.checkpointing.specs.Courses.{taking_course, checkpoint_steps, checkpoint_course, closing_course, logged_course, trim_due, trim_within, turn_due, unstopped, upkeep_course}
use Rattle.checkpointing.specs.declared.due.Due.{Due}
use Rattle.redo_pass.specs.Redo.{redo_steps}
use Rattle.store_engine.proofs.Steps.{ArePlain, plain_append}

module _ {O : Type 0} (m : Meaning O) where
  upkeep_logged : (w : World O) (used : ℕ) → AreUpkeep (logged_course m w used).steps
  upkeep_logged w used =
      let n = checkpoint_length m w in
      upkeep_either m (nat_lt log_limit (grown m w used n)) (course [] used (Full used (n + 5) log_limit)) (course checkpoint_steps (grown m w used n) Through) tt (tt, (tt, tt))

  upkeep_taking : (w : World O) (used : ℕ) → AreUpkeep (taking_course m w used).steps
  upkeep_taking w used = upkeep_then m w (course (room_steps m w (checkpoint_length m w)) used Through) (logged_course m) (upkeep_room m w (checkpoint_length m w)) (λ v used. upkeep_logged v used)

  pub upkeep_checkpoint : (w : World O) (used : ℕ) → AreUpkeep (checkpoint_course m w used).steps
  upkeep_checkpoint w used =
      let c = taking_course m w used in
      upkeep_either m (is_through c.stop) c (course (c.steps ++ force_steps m (run m w c.steps)) c.used c.stop) (upkeep_taking w used)
      (upkeep_append m c.steps (force_steps m (run m w c.steps)) (upkeep_taking w used) (upkeep_force m (run m w c.steps)))

  pub upkeep_closing : (w : World O) (used : ℕ) → AreUpkeep (closing_course m w used).steps
  upkeep_closing w used = upkeep_taking w used

  upkeep_rewrite : (most : ℕ) (w : World O) (used : ℕ) → AreUpkeep (rewrite_within m most w used).steps
  upkeep_rewrite most w used =
      upkeep_either m (nat_lt most (trimmed_file m w)) (course [] used (Full used (trimmed_file m w) most)) (course (Header_gate (new_base m w) ∷ []) (trimmed m w) Through) tt (tt, tt)

  pub upkeep_trim : (most epoch : ℕ) (w : World O) (used : ℕ) → AreUpkeep (trim_within m most epoch w used).steps
  upkeep_trim most epoch w used = cond_both (nat_le lsn_end epoch) _ _ (λ (c : Course O). AreUpkeep c.steps) (λ worn. tt)
      (λ left. upkeep_then m w (force_course m w used) (rewrite_within m most) (upkeep_force m w) (λ v used. upkeep_rewrite most v used))

  upkeep_trim_due : (due : Option ℕ) (epoch : ℕ) (w : World O) (used : ℕ) → AreUpkeep (trim_due m due epoch w used).steps
  upkeep_trim_due None epoch w used = tt
  upkeep_trim_due (Some most) epoch w used = upkeep_trim most epoch w used

  upkeep_turn_due : (due : Option ℕ) (copied : ℕ) (w : World O) (used : ℕ) → AreUpkeep (turn_due m due copied w used).steps
  upkeep_turn_due None copied w used = tt
  upkeep_turn_due (Some most) copied w used = upkeep_turn m copied (max 1 most) w used

  pub upkeep_upkeep : (due : Due) (epoch copied : ℕ) (w : World O) (used : ℕ) → AreUpkeep (upkeep_course m due epoch copied w used).steps
  upkeep_upkeep due epoch copied w used =
      upkeep_then m w (unstopped (trim_due m due.trim epoch w used)) (λ v used. unstopped (turn_due m due.turn copied v used)) (upkeep_trim_due due.trim epoch w used) (λ v used. upkeep_turn_due due.turn copied v used)

  plain_if : (b : Bool) (xs ys : List (Step O)) → ArePlain xs → ArePlain ys → ArePlain (if b then xs else ys)
  plain_if b xs ys first second = cond_both b xs ys (λ (l : List (Step O)). ArePlain l) (λ is. first) (λ is. second)

  plain_gates : (gates : List Gate) → ArePlain {O = O} (gates_of gates)
  plain_gates [] = tt
  plain_gates (g ∷ gates) = (tt, plain_gates gates)

  plain_removals : (gates : List Gate) → ArePlain {O = O} (removals_of gates)
  plain_removals [] = tt
  plain_removals (g ∷ gates) = (tt, plain_removals gates)

  pub plain_thin_turn : (most : ℕ) (w : World O) → ArePlain (thin_turn m most w)
  plain_thin_turn most w =
      let gates = free_gates m (max 1 most) w in
      by_thin_turn m (λ (l : List (Step O)). ArePlain l) most w (λ thin some. plain_append (gates_of gates) (removals_of gates) (plain_gates gates) (plain_removals gates)) (λ thin none. (tt, tt)) (λ no_thin. tt)

  plain_turn : (marks : Marks) (w : World O) → ArePlain (turn m marks w)
  plain_turn marks w =
      plain_if (must_install m marks w) (thin_turn m marks.most w) (if nat_le w.next (length w.history) then Replay ∷ [] else []) (plain_thin_turn marks.most w)
      (plain_if (nat_le w.next (length w.history)) (Replay ∷ []) [] (tt, tt) tt)

  plain_turns : (marks : Marks) (n : ℕ) (w : World O) → ArePlain (turns m marks n w)
  unfolding turns
  plain_turns marks zero w = tt
  plain_turns marks (suc n) w = plain_append (turn m marks w) (turns m marks n (run m w (turn m marks w))) (plain_turn marks w) (plain_turns marks n (run m w (turn m marks w)))

  -- a redo, and steps that log nothing after it
  pub plain_redo : (marks : Marks) (w : World O) (closing : List (Step O)) → ArePlain closing → ArePlain (redo_steps m marks w ++ closing)
  plain_redo marks w closing are = plain_append (redo_steps m marks w) closing (plain_turns marks (2 * (end_of w - w.next)) w) are
