-- The steps of a checkpoint, of that of a restart and of a trim may be taken, and add no command.
use Rattle.std.proofs.Common.{◌≡◌, sym, subst, ℕ, List, [], ◌∷◌, ◌++◌, length, refl, arith, inl, inr, ◌⊎◌, ⊎_elim}
use Rattle.std.specs.Prelude.{⊤, nat_lt, nat_le, ◌^◌, ◌+◌}
use Rattle.std.proofs.lemmas.Bool.{cases_Bool, or_parts, ltb-false, cond_both, cond-true, cond-false}
use Rattle.oper_core.specs.Meaning.{Meaning}
use Rattle.explain_core.specs.RunLaws.{allowed-append}
use Rattle.explain_core.specs.World.{World, Step, step, run, IsLive, NoGroup, AreAllowed}
use Rattle.explain_core.specs.World.Step.{Block_gate, Checkpoint, Header_gate}
use Rattle.running_store.specs.Courses.{Course, course, and_then, buffered, force_course, force_steps, grown, is_through, room_steps, waits}
use Rattle.running_store.specs.Courses.Stop.{Through, Full, Worn}
use Rattle.formats.specs.Limits.{log_limit, lsn_end}
use Rattle.running_store.specs.Running.{AreUpkeep, IsRunning, KeepsSound, MayBeTaken, may_be_taken, running_after}
use Rattle.running_store.specs.Calls.RewriteLaws.{gate_allowed}
use Rattle.running_store.specs.Calls.Rewrites.{checkpoint_length, new_base, rewrite_within, trimmed, trimmed_file}
use Rattle.cache_manager.specs.Upkeep.{upkeep_append}
use Rattle.checkpointing.specs.Courses.{taking_course, checkpoint_steps, checkpoint_course, closing_course, logged_course, trim_within}

-- steps on the log alone, which may be taken wherever calls are made
abbrev ArePlain : {O : Type 0} → List (Step O) → Type 0
ArePlain [] = ⊤
ArePlain (s ∷ steps) = ((s ≡ Block_gate) ⊎ (s ≡ Checkpoint)) × ArePlain steps

module _ {O : Type 0} (m : Meaning O) where
  plain_allowed : (w : World O) (steps : List (Step O)) → ArePlain steps → IsLive w → NoGroup w → AreAllowed m w steps
  unfolding step
  plain_allowed w [] are live alone = tt
  plain_allowed w (s ∷ steps) are live alone =
      let P : Step O → Type 0 = λ t. AreAllowed m w (t ∷ steps) in
      ⊎_elim (λ is. subst P (sym is) ((live, alone), plain_allowed (step m w Block_gate) steps are.1 live alone)) (λ is. subst P (sym is) ((live, alone), plain_allowed (step m w Checkpoint) steps are.1 live alone)) are.0

  plain_upkeep : (steps : List (Step O)) → ArePlain steps → AreUpkeep steps
  plain_upkeep [] are = tt
  plain_upkeep (s ∷ steps) are =
      let P : Step O → Type 0 = λ t. AreUpkeep (t ∷ steps) in ⊎_elim (λ is. subst P (sym is) (tt, plain_upkeep steps are.1)) (λ is. subst P (sym is) (tt, plain_upkeep steps are.1)) are.0

  plain_append : (xs ys : List (Step O)) → ArePlain xs → ArePlain ys → ArePlain (xs ++ ys)
  plain_append [] ys first second = second
  plain_append (x ∷ xs) ys first second = (first.0, plain_append xs ys first.1 second)

  plain_force : (w : World O) → ArePlain (force_steps m w)
  plain_force w = cond_both (waits m w) (Block_gate ∷ []) [] (λ (l : List (Step O)). ArePlain l) (λ some. (inl refl, tt)) (λ none. tt)

  plain_room : (w : World O) (n : ℕ) → ArePlain (room_steps m w n)
  plain_room w n = cond_both (nat_lt (2 ^ 30) (buffered m w + n)) (force_steps m w) [] (λ (l : List (Step O)). ArePlain l) (λ long. plain_force w) (λ short. tt)

  plain_logged : (w : World O) (used : ℕ) → ArePlain (logged_course m w used).steps
  plain_logged w used =
      let n = checkpoint_length m w in
      cond_both (nat_lt log_limit (grown m w used n)) (course [] used (Full used (n + 5) log_limit)) (course checkpoint_steps (grown m w used n) Through) (λ (c : Course O). ArePlain c.steps) (λ full. tt) (λ fits. (inr refl, (inl refl, tt)))

  plain_taking : (w : World O) (used : ℕ) → ArePlain (taking_course m w used).steps
  plain_taking w used =
      let first : Course O = course (room_steps m w (checkpoint_length m w)) used Through in
      let second = logged_course m (run m w first.steps) used in
      plain_append first.steps second.steps (plain_room w (checkpoint_length m w)) (plain_logged (run m w first.steps) used)

  plain_checkpoint : (w : World O) (used : ℕ) → ArePlain (checkpoint_course m w used).steps
  plain_checkpoint w used =
      let c = taking_course m w used in
      let v = run m w c.steps in
      cond_both (is_through c.stop) c (course (c.steps ++ force_steps m v) c.used c.stop) (λ (c : Course O). ArePlain c.steps) (λ through. plain_taking w used)
      (λ stopped. plain_append c.steps (force_steps m v) (plain_taking w used) (plain_force v))

  module _ (keeps : KeepsSound m) (w : World O) (is : IsRunning m w) where
    plain_taken : (steps : List (Step O)) → ArePlain steps → MayBeTaken m w steps
    plain_taken steps are = may_be_taken m w steps keeps is (plain_upkeep steps are) (plain_allowed w steps are is.live is.alone)

    pub checkpoint_taken : (used : ℕ) → MayBeTaken m w (checkpoint_course m w used).steps
    checkpoint_taken used = plain_taken (checkpoint_course m w used).steps (plain_checkpoint w used)

    pub closing_taken : (used : ℕ) → MayBeTaken m w (closing_course m w used).steps
    closing_taken used = plain_taken (closing_course m w used).steps (plain_taking w used)

    -- after a force all is stable
    forced_all : (run m w (force_steps m w)).forced ≡ length (run m w (force_steps m w)).history
    unfolding run step
    forced_all = elim (cases_Bool (waits m w)) [
      | inl some ↦ subst (λ (l : List (Step O)). (run m w l).forced ≡ length (run m w l).history) (sym (cond-true (waits m w) (Block_gate ∷ []) [] some)) refl
      | inr none ↦
          let parts = or_parts (nat_lt w.forced (length w.history)) (nat_lt 0 (length w.pending)) none in
          subst (λ (l : List (Step O)). (run m w l).forced ≡ length (run m w l).history) (sym (cond-false (waits m w) (Block_gate ∷ []) [] none))
          (omega (arith, ltb-false w.forced (length w.history) parts.0, is.sound.forced))
    ]

    abbrev v : World O
    v = run m w (force_steps m w)

    forced_running : IsRunning m v
    forced_running = running_after m w (force_steps m w) keeps is (plain_upkeep (force_steps m w) (plain_force w)) (plain_allowed w (force_steps m w) (plain_force w) is.live is.alone)

    rewrite_allowed : (most used : ℕ) → AreAllowed m v (rewrite_within m most v used).steps
    rewrite_allowed most used =
        cond_both (nat_lt most (trimmed_file m v)) (course [] used (Full used (trimmed_file m v) most)) (course (Header_gate (new_base m v) ∷ []) (trimmed m v) Through) (λ (c : Course O). AreAllowed m v c.steps) (λ full. tt)
        (λ fits. (gate_allowed m v forced_running.sound forced_running.live forced_running.alone forced_all, tt))

    rewrite_upkeep : (most used : ℕ) → AreUpkeep (rewrite_within m most v used).steps
    rewrite_upkeep most used =
        cond_both (nat_lt most (trimmed_file m v)) (course [] used (Full used (trimmed_file m v) most)) (course (Header_gate (new_base m v) ∷ []) (trimmed m v) Through) (λ (c : Course O). AreUpkeep c.steps) (λ full. tt) (λ fits. (tt, tt))

    pub trim_taken : (most epoch used : ℕ) → MayBeTaken m w (trim_within m most epoch w used).steps
    trim_taken most epoch used =
        let rest = rewrite_within m most v used in
        cond_both (nat_le lsn_end epoch) (course [] used (Worn epoch)) (and_then m w (force_course m w used) (λ v used. rewrite_within m most v used)) (λ (c : Course O). MayBeTaken m w c.steps)
        (λ worn. plain_taken [] tt)
        (λ early. may_be_taken m w (force_steps m w ++ rest.steps) keeps is (upkeep_append m (force_steps m w) rest.steps (plain_upkeep (force_steps m w) (plain_force w)) (rewrite_upkeep most used))
        (allowed-append m w (force_steps m w) rest.steps (plain_allowed w (force_steps m w) (plain_force w) is.live is.alone) (rewrite_allowed most used)))
