-- What a command leaves of the commands that engine and files stand for.
use Rattle.std.proofs.Common.{◌≡◌, ◌∙◌, sym, subst, ap, ℕ, zero, suc, ◌+◌, ◌-◌, ◌≤◌, Bool, true, false, List, [], ◌∷◌, ◌++◌, length, take, refl, arith, inl, inr, ◌⊎◌, ⊎_elim, Option, Some, None, length-append, if◌then◌else◌}
use Rattle.std.specs.Prelude.{◌^◌, ◌||◌, nat_lt, nat_le, Result, Ok, Err, OnOk, OnErr, IfErr, IfSome}
use Rattle.std.specs.Option.{is_some}
use Rattle.std.proofs.Math.Path.{fun_ext}
use Rattle.std.proofs.lemmas.Bool.{cond_both, cond-true, cond-false, lt-ltb, le-ltb}
use Rattle.disk_model.specs.Disk.{Files, Disk, LeavesOnly}
use Rattle.disk_model.specs.Moments.{weaker}
use Rattle.disk_model.specs.Silent.{IsSilent, silent_weaker}
use Rattle.oper_core.specs.State.{State}
use Rattle.oper_core.specs.Meaning.{Meaning, IsSmall, refusal_of}
use Rattle.oper_core.specs.declared.bounds.Bounds.{Bounds}
use Rattle.oper_core.specs.declared.refusal.Refusal.{Refusal}
use Rattle.formats.specs.Objects.{bounds_of}
use Rattle.formats.specs.declared.params.Params.{Params}
use Rattle.log_records.specs.RecordLog.{RecordLogView}
use Rattle.explain_core.specs.History.{Member, commands_of}
use Rattle.explain_core.specs.History.Member.{Command}
use Rattle.explain_core.specs.RunLaws.{Begins, begins-all, begins-allowed, begins-one}
use Rattle.explain_core.specs.StableLaws.{commands_of-append}
use Rattle.explain_core.specs.Sound.{IsGroup, IsSound}
use Rattle.explain_core.specs.Taken.{IsAfterSome}
use Rattle.explain_core.specs.World.{World, Step, Starts, step, run, end_of, IsLive}
use Rattle.explain_core.specs.World.Step.{Append, Block_gate}
use Rattle.standing.specs.Moments.{ShowsSome, TakesSome}
use Rattle.standing.specs.Standing.{FilesShow}
use Rattle.running_store.specs.Steps.Appended.{next_lsn}
use Rattle.running_store.specs.Courses.{Course, force_steps, grown, is_through, waits}
use Rattle.running_store.specs.Parts.{Shows}
use Rattle.running_store.specs.StoreView.{StoreView, log_length}
use Rattle.running_store.specs.Taking.{Ending, Follows, Takes}
use Rattle.running_store.specs.Taking.Ending.{Done, Stopped, Short, Failed}
use Rattle.running_store.specs.Calls.Commands.{command_length}
use Rattle.cache_manager.specs.Upkeep.{upkeep_force}
use Rattle.execution.specs.Answers as of_world
use Rattle.execution.specs.Answers.{ending_of_exec}
use Rattle.execution.specs.Counted.{accepted_shown}
use Rattle.execution.specs.Courses.{append_course, exec_course, needed, refusal_in, unless_refused, unplaced_steps}
use Rattle.execution.specs.Done as of_store_command
use Rattle.execution.specs.Done.{IsUndone}
use Rattle.execution.specs.Stops.{StopsCommand}
use Rattle.execution.specs.Taken.{MayExec}
use Rattle.execution.specs.declared.exec_err.ExecErr.{ExecErr}
use Rattle.execution.specs.declared.exec_err.ExecErr.TheVariants.{Refused, LogFull, LsnEnd, DiskFault, Damaged, Memory}
use Rattle.running_store.specs.Calls as of_store
use Rattle.running_store.specs.Calls.{IsFailed}
use Rattle.store_engine.specs.Engine.{EngineView, Between, FollowsIn, HasCause, Holds, Kept, ShowsIn, TakesIn, accepted_in, commands_since, engine_of, forced_in, group_size, needed_in, params_of, used_in}
use Rattle.store_engine.specs.Grouping.{AreInside, front_inside, stays_inside, ungrouped}
use Rattle.store_engine.specs.Store.{meaning_in, refusal_after}
use Rattle.store_engine.specs.Commands.{HasRun}
use Rattle.store_engine.proofs.Calls.{call_of, fine}
use Rattle.store_engine.specs.Counts.{forced_shown, commands-members_of}
use Rattle.store_engine.proofs.Grouped.{waits_none}
use Rattle.store_engine.proofs.Holding.{IsGroupCounted, IsLiveMap, Stand, holds_accepted, holds_forced}
use Rattle.store_engine.proofs.Keeping.{KeepsRuns, between_front, small_shown}
use Rattle.store_engine.proofs.Steps.{ArePlain, HasFront, are_plain, front_appended, front_extended, plain_front, same_commands, stable_inside, steps_extend}

-- the course of every sound live world may be taken, also while a group is open
abbrev pub MayExecAll : {O : Type 0} → (Bounds → Meaning O) → ℕ → O → Type 0
MayExecAll {O} meaning limit op = (b : Bounds) (w : World O) (used : ℕ) → IsSmall b → IsSound (meaning b) w → IsLive w → MayExec (meaning b) limit op w used

module _ {O : Type 0} (m : Meaning O) (grouped : Bool) (limit : ℕ) (op : O) (w : World O) (used : ℕ) where
  -- a command's course has no step, or those for a record without a place, or the append
  course_ways : (P : List (Step O) → Type 0) → P [] → P (unplaced_steps m grouped w) → P (Append (Command op) ∷ []) → P (exec_course m grouped limit op w used).steps
  course_ways P none forces appends = by_refusal (refusal_in m w op)
    where
      by_refusal : (o : Option Refusal) → P (unless_refused used (append_course m grouped limit op w used) o).steps
      by_refusal (Some refusal) = none
      by_refusal None = cond_both (nat_lt limit (grown m w used (command_length m op))) _ _ (λ (c : Course O). P c.steps) (λ over. forces)
          (λ fits. cond_both (nat_le (2 ^ 62) (end_of w)) _ _ (λ (c : Course O). P c.steps) (λ last. forces) (λ low. appends))

  -- so some first steps are plain, or the append
  abbrev Ways : List (Step O) → Type 0
  Ways taken = ArePlain taken ⊎ (taken ≡ Append (Command op) ∷ [])

  abbrev AllWays : List (Step O) → Type 0
  AllWays steps = (taken : List (Step O)) → Begins steps taken → Ways taken

  plain_ways : (steps : List (Step O)) → ArePlain steps → AllWays steps
  plain_ways steps plain taken begins = inl (plain_front steps taken begins plain)

  unplaced_plain : (g : Bool) → ArePlain (unplaced_steps m g w)
  unplaced_plain true = tt
  unplaced_plain false = are_plain (force_steps m w) (upkeep_force m w)

  append_ways : AllWays (Append (Command op) ∷ [])
  append_ways taken begins = elim (begins-one (Append (Command op)) taken begins) [ inl none ↦ inl (subst (λ (l : List (Step O)). ArePlain l) (sym none) tt) | inr all ↦ inr all ]

  pub taken_ways : (taken : List (Step O)) → Begins (exec_course m grouped limit op w used).steps taken → Ways taken
  taken_ways = course_ways AllWays (plain_ways [] tt) (plain_ways (unplaced_steps m grouped w) (unplaced_plain grouped)) append_ways

  pub has_front : w.forced ≤ length w.history → (taken : List (Step O)) → Ways taken → HasFront w (run m w taken)
  unfolding run
  has_front within taken (inl plain) = front_extended w (run m w taken) within (steps_extend m w taken plain within)
  has_front within taken (inr all) = subst (λ (l : List (Step O)). HasFront w (run m w l)) (sym all) (front_appended m w (Command op) within)

  -- with the append there is one command more
  pub one_more : (taken : List (Step O)) → taken ≡ Append (Command op) ∷ [] → length (commands_of (run m w taken).history) ≡ length (commands_of w.history) + 1
  unfolding run step
  one_more taken all =
      ap (λ (l : List (Step O)). length (commands_of (run m w l).history)) all
      ∙ ap (λ (l : List O). length l) (commands_of-append w.history (Command op ∷ [])) ∙ length-append (commands_of w.history) (op ∷ [])

-- a command's course leaves a group as it is: within one nothing is forced
pub course_inside : {O : Type 0} (m : Meaning O) (group : Option ℕ) (limit : ℕ) (op : O) (w : World O) (used : ℕ) → AreInside group (exec_course m (is_some group) limit op w used).steps
course_inside {O} m group limit op w used = course_ways m (is_some group) limit op w used (λ (l : List (Step O)). AreInside group l) tt (unplaced_inside group) (tt, tt)
  where
    unplaced_inside : (group : Option ℕ) → AreInside group (unplaced_steps m (is_some group) w)
    unplaced_inside (Some begun) = tt
    unplaced_inside None = cond_both (waits m w) (Block_gate ∷ []) [] (λ (l : List (Step O)). AreInside None l) (λ some. (refl, tt)) (λ none. tt)

-- A command takes its course in the engine: the parts show the world but for its group, and the steps leave that as it is.
module _ {O : Type 0} (meaning : Bounds → Meaning O) (p : Params) (old new : Disk) (before after : EngineView) (op : O) (keeps : KeepsRuns meaning) (may : MayExecAll meaning (params_of before).limit op)
    (same : after.group ≡ before.group) (w : World O) (shows : ShowsIn meaning p old before w) where
  abbrev m : Meaning O
  m = meaning_in meaning p

  abbrev pub whole : Course O
  whole = exec_course m (is_some w.group) (params_of before).limit op w (used_in before)

  small : IsSmall (bounds_of p)
  small = small_shown m p old before.parts (ungrouped w) shows.shows

  pub may_here : MayExec m (params_of before).limit op w (used_in before)
  may_here = may (bounds_of p) w (used_in before) small shows.sound shows.shows.running.live

  pub inside : (taken : List (Step O)) → Begins whole.steps taken → AreInside w.group taken
  inside taken begins = front_inside w.group whole.steps taken begins (course_inside m w.group (params_of before).limit op w (used_in before))

  pub sound_after : (taken : List (Step O)) → Begins whole.steps taken → IsSound m (run m w taken)
  sound_after taken begins = keeps (bounds_of p) w taken small shows.sound (begins-allowed m w whole.steps taken begins may_here.allowed)

  shows_after : (taken : List (Step O)) → Begins whole.steps taken → after.broken ≡ false → Shows m p new after.parts (run m (ungrouped w) taken) → ShowsIn meaning p new after (run m w taken)
  shows_after taken begins fine given =
      let stays = stays_inside m w.group w taken (inside taken begins) in
      let here : w.group ≡ after.group = shows.group ∙ sym same in
      record {
        unbroken = fine;
        sound = sound_after taken begins;
        group = stays.group ∙ here;
        shows = subst (λ (v : World O). Shows m p new after.parts v) (sym stays.same) given;
        no_checkpoint = subst (λ (o : Option ℕ). IfSome o (λ begun. (run m w taken).pending ≡ [])) here
            (waits_none m w w.group taken (inside taken begins) (subst (λ (o : Option ℕ). IfSome o (λ begun. w.pending ≡ [])) (sym shows.group) shows.no_checkpoint));
      }

  course_after : (c : Course O) → c ≡ whole → (e : Ending) → IsFailed e ⊎ (after.broken ≡ false) → Follows m p new after.parts (ungrouped w) c e → FollowsIn meaning p new after w whole e
  course_after c is Done unbroken f = ⊎_elim (λ failed. absurd failed) (λ fine.
      let g = subst (λ (d : Course O). Follows m p new after.parts (ungrouped w) d Done) is f in
      (g.0, record { shows = shows_after whole.steps (begins-all whole.steps) fine g.1.shows; used = g.1.used })) unbroken
  course_after c is (Stopped stop) unbroken f = ⊎_elim (λ failed. absurd failed) (λ fine.
      let g = subst (λ (d : Course O). Follows m p new after.parts (ungrouped w) d (Stopped stop)) is f in
      (g.0, record { shows = shows_after whole.steps (begins-all whole.steps) fine g.1.shows; used = g.1.used })) unbroken
  course_after c is Short unbroken f = ⊎_elim (λ failed. absurd failed) (λ fine.
      let g = subst (λ (d : Course O). Follows m p new after.parts (ungrouped w) d Short) is f in
      record { taken = g.taken; begins = g.begins; holds = shows_after g.taken g.begins fine g.holds }) unbroken
  course_after c is Failed unbroken f = tt

  some_after : (files : Files) → ShowsSome m p (ungrouped w) whole.steps files → ShowsSome m p w whole.steps files
  some_after files is = record {
    taken = is.taken;
    begins = is.begins;
    holds = subst (λ (v : World O). FilesShow m p files v) (sym (stays_inside m w.group w is.taken (inside is.taken is.begins)).same) is.holds;
  }

  -- the course is the same with the engine's group and with the world's
  ungrouped_course : (grouped : Bool) → exec_course m grouped (params_of before).limit op (ungrouped w) (used_in before) ≡ exec_course m grouped (params_of before).limit op w (used_in before)
  ungrouped_course true = refl
  ungrouped_course false = refl

  same_course : (grouped : Bool) → grouped ≡ is_some before.group → exec_course m grouped (params_of before).limit op (ungrouped w) (used_in before) ≡ whole
  same_course grouped is = ungrouped_course grouped ∙ ap (λ (g : Bool). exec_course m g (params_of before).limit op w (used_in before)) (is ∙ ap is_some (sym shows.group))

  pub exec_follows : (grouped : Bool) → grouped ≡ is_some before.group → (e : Ending) → IsFailed e ⊎ (after.broken ≡ false)
      → Follows m p new after.parts (ungrouped w) (exec_course m grouped (params_of before).limit op (ungrouped w) (used_in before)) e → FollowsIn meaning p new after w whole e
  exec_follows grouped is e unbroken f = course_after (exec_course m grouped (params_of before).limit op (ungrouped w) (used_in before)) (same_course grouped is) e unbroken f

  pub exec_moments : (grouped : Bool) → grouped ≡ is_some before.group → TakesSome m p old new (ungrouped w) (exec_course m grouped (params_of before).limit op (ungrouped w) (used_in before)).steps → TakesSome m p old new w whole.steps
  exec_moments grouped is steps =
      silent_weaker old new (ShowsSome m p (ungrouped w) whole.steps) (ShowsSome m p w whole.steps) some_after
      (subst (λ (c : Course O). TakesSome m p old new (ungrouped w) c.steps) (same_course grouped is) steps)

-- why a command gets its answer is said of the world but for its group
pub world_cause : {O : Type 0} (grouped : Bool) (m : Meaning O) (limit : ℕ) (w : World O) (used : ℕ) (op : O) (r : Result ℕ ExecErr) → of_world.HasCauseIn grouped m limit (ungrouped w) used op r → of_world.HasCauseIn grouped m limit w used op r
world_cause grouped m limit w used op (Ok n) cause = cause
world_cause grouped m limit w used op (Err (Refused refusal)) cause = cause
world_cause grouped m limit w used op (Err (LogFull held need most)) cause = (cause.0, cause.1, cause.2, cause.3 ∙ same_need grouped, cause.4)
  where
    same_need : (g : Bool) → needed m g (ungrouped w) (command_length m op) ≡ needed m g w (command_length m op)
    same_need true = refl
    same_need false = refl
world_cause grouped m limit w used op (Err (LsnEnd lsn)) cause = cause
world_cause grouped m limit w used op (Err DiskFault) cause = cause
world_cause grouped m limit w used op (Err (Damaged file place)) cause = cause
world_cause grouped m limit w used op (Err Memory) cause = cause

pub exec_takes : {O : Type 0} (meaning : Bounds → Meaning O) (old new : Disk) (before after : EngineView) (op : O) (r : Result ℕ ExecErr) (grouped : Bool) → grouped ≡ is_some before.group
    → KeepsRuns meaning → MayExecAll meaning (params_of before).limit op → after.group ≡ before.group → IsFailed (ending_of_exec r) ⊎ (after.broken ≡ false)
    → Takes meaning old new before.parts after.parts (λ m w used. exec_course m grouped (params_of before).limit op w used) (ending_of_exec r)
    → TakesIn meaning old new before after (λ m w used. exec_course m (is_some w.group) (params_of before).limit op w used) (ending_of_exec r)
exec_takes meaning old new before after op r grouped is keeps may same unbroken takes = record {
  follows = λ p w shows. exec_follows meaning p old new before after op keeps may same w shows grouped is (ending_of_exec r) unbroken (takes.follows p (ungrouped w) shows.shows);
  steps = λ told p w shows. exec_moments meaning p old new before after op keeps may same w shows grouped is (takes.steps told p (ungrouped w) shows.shows);
}

module _ {O : Type 0} (meaning : Bounds → Meaning O) (p : Params) (old new : Disk) (before after : EngineView) (op : O) (keeps : KeepsRuns meaning) (may : MayExecAll meaning (params_of before).limit op)
    (same : after.group ≡ before.group) (commands : List O) (holds : Holds meaning p old before commands) where
  abbrev mean : Meaning O
  mean = meaning_in meaning p

  abbrev w : World O
  w = holds.world

  abbrev pub course_here : Course O
  course_here = exec_course mean (is_some w.group) (params_of before).limit op w (used_in before)

  within : w.forced ≤ length w.history
  within = holds.shows.sound.forced

  may_world : MayExec mean (params_of before).limit op w (used_in before)
  may_world = may_here meaning p old new before after op keeps may same w holds.shows

  ways : (taken : List (Step O)) → Begins course_here.steps taken → ArePlain taken ⊎ (taken ≡ Append (Command op) ∷ [])
  ways = taken_ways mean (is_some w.group) (params_of before).limit op w (used_in before)

  front : (taken : List (Step O)) → Begins course_here.steps taken → HasFront w (run mean w taken)
  front taken begins = has_front mean (is_some w.group) (params_of before).limit op w (used_in before) within taken (ways taken begins)

  -- within a group no more is stable at any moment
  stable_still : (taken : List (Step O)) → Begins course_here.steps taken → (before.group ≡ None) ⊎ (take (run mean w taken).forced (run mean w taken).history ≡ take w.forced w.history)
  stable_still taken begins = by_group w.group refl
    where
      by_group : (group : Option ℕ) → w.group ≡ group → (before.group ≡ None) ⊎ (take (run mean w taken).forced (run mean w taken).history ≡ take w.forced w.history)
      by_group None is = inl (sym holds.shows.group ∙ is)
      by_group (Some begun) is =
          inr (stable_inside mean begun w taken (subst (λ (o : Option ℕ). AreInside o taken) is (inside meaning p old new before after op keeps may same w holds.shows taken begins)) within)

  now_forced : (taken : List (Step O)) → ShowsIn meaning p new after (run mean w taken) → forced_in after ≡ length (commands_of (take (run mean w taken).forced (run mean w taken).history))
  now_forced taken shows = forced_shown mean p new after.parts (ungrouped (run mean w taken)) shows.shows

  kept_run : (taken : List (Step O)) → Begins course_here.steps taken → ShowsIn meaning p new after (run mean w taken) → (others : List O) → commands_of (run mean w taken).history ≡ others
      → Kept meaning p before new after others
  kept_run taken begins shows others are =
      let has = front taken begins in
      record {
        holds = record { world = run mean w taken; shows = shows; commands_are = are };
        rising = omega (arith, has.enough, holds_forced meaning p old before commands holds, forced_shown mean p new after.parts (ungrouped (run mean w taken)) shows.shows);
        which = ⊎_elim
            (λ none. ⊎_elim (λ as_many. inl (now_forced taken shows ∙ as_many ∙ sym (holds_forced meaning p old before commands holds))) (λ all. inr (none, omega (arith, all, holds_accepted meaning p old before commands holds, ap (λ (l : List O). length l) holds.commands_are, now_forced taken shows))) has.which)
            (λ stable. inl (now_forced taken shows ∙ ap (λ (h : List (Member O)). length (commands_of h)) stable ∙ sym (holds_forced meaning p old before commands holds)))
            (stable_still taken begins);
      }

  -- a command that is done is after the others
  pub exec_ok : (r : Result ℕ ExecErr) → FollowsIn meaning p new after w course_here (ending_of_exec r) → of_world.HasCauseIn (is_some w.group) mean p.limit w (used_in before) op r
      → OnOk r (Kept meaning p before new after (commands ++ op ∷ []))
  exec_ok (Ok n) f cause =
      kept_run course_here.steps (begins-all course_here.steps) f.1.shows (commands ++ op ∷ []) (may_world.done cause.0 f.0 ∙ ap (λ (l : List O). l ++ op ∷ []) holds.commands_are)
  exec_ok (Err e) f cause = tt

  kept_short : IsAfterSome mean (λ v. ShowsIn meaning p new after v) w course_here.steps → after.parts.log.accepted ≡ before.parts.log.accepted → Kept meaning p before new after commands
  kept_short f as_many = kept_run f.taken f.begins f.holds commands (by_way (ways f.taken f.begins))
    where
      by_way : ArePlain f.taken ⊎ (f.taken ≡ Append (Command op) ∷ []) → commands_of (run mean w f.taken).history ≡ commands
      by_way (inl plain) = same_commands w (run mean w f.taken) (steps_extend mean w f.taken plain within) ∙ holds.commands_are
      by_way (inr all) = absurd (omega (
        arith,
        as_many,
        accepted_shown mean p old before.parts (ungrouped w) holds.shows.shows,
        accepted_shown mean p new after.parts (ungrouped (run mean w f.taken)) f.holds.shows,
        one_more mean (is_some w.group) (params_of before).limit op w (used_in before) f.taken all,
      ))

  kept_whole : ShowsIn meaning p new after (run mean w course_here.steps) → commands_of (run mean w course_here.steps).history ≡ commands_of w.history → Kept meaning p before new after commands
  kept_whole shows are = kept_run course_here.steps (begins-all course_here.steps) shows commands (are ∙ holds.commands_are)

  refused_same : (refusal : Refusal) → refusal_in mean w op ≡ Some refusal → commands_of (run mean w course_here.steps).history ≡ commands_of w.history
  unfolding run
  refused_same refusal is = ap (λ (l : List (Step O)). commands_of (run mean w l).history) (may_world.refused refusal is)

  -- one that is not done leaves them, unless the disk fails
  pub exec_err : (r : Result ℕ ExecErr) → FollowsIn meaning p new after w course_here (ending_of_exec r) → of_world.HasCauseIn (is_some w.group) mean p.limit w (used_in before) op r
      → (grouped : Bool) → IfErr r (IsUndone grouped before.parts after.parts) → OnErr r ((r ≡ Err DiskFault) ⊎ Kept meaning p before new after commands)
  exec_err (Ok n) f cause grouped undone = tt
  exec_err (Err (Refused refusal)) f cause grouped undone = inr (kept_whole f.1.shows (refused_same refusal cause))
  exec_err (Err (LogFull used need limit)) f cause grouped undone = inr (kept_whole f.1.shows (may_world.stopped (ap is_through f.0)))
  exec_err (Err (LsnEnd lsn)) f cause grouped undone = inr (kept_whole f.1.shows (may_world.stopped (ap is_through f.0)))
  exec_err (Err DiskFault) f cause grouped undone = inl refl
  exec_err (Err (Damaged file place)) f cause grouped undone = absurd cause
  exec_err (Err Memory) f cause grouped undone = inr (kept_short f (ap (λ (log : RecordLogView). log.accepted) undone.log))

  -- an image within the call stands for the commands that were forced, or for those before it
  exec_between : Stand meaning p → (files : Files) (said : List ℕ) → IsSilent (ShowsSome mean p w course_here.steps) old.said files said → Between meaning p old before.group (forced_in before) (accepted_in before) commands files said
  exec_between stand files said is =
      let some = is.holds in
      let later = run mean w some.taken in
      let sound = sound_after meaning p old new before after op keeps may same w holds.shows some.taken some.begins in
      between_front meaning p old before commands holds later files said (front some.taken some.begins) (stable_still some.taken some.begins) is.silent (stand files later sound some.holds)

  pub exec_images : Stand meaning p → TakesSome mean p old new w course_here.steps → LeavesOnly old new (Between meaning p old before.group (forced_in before) (accepted_in before) commands)
  exec_images stand steps = weaker old new (IsSilent (ShowsSome mean p w course_here.steps) old.said) (Between meaning p old before.group (forced_in before) (accepted_in before) commands) steps (exec_between stand)

  refusal_same : IsLiveMap mean → refusal_in mean w op ≡ refusal_after meaning p commands op
  refusal_same map =
      ap (λ (s : State). refusal_of mean s op) (fun_ext (λ (x : ℕ). map w x holds.shows.sound holds.shows.shows.running.live))
      ∙ ap (λ (l : List O). refusal_after meaning p l op) holds.commands_are

  -- a record needs as many bytes as the world says: within a group what waits are its commands
  need_same : IsGroupCounted mean → (n : ℕ) → needed mean (is_some w.group) w n ≡ needed_in (group_size before) n
  need_same counted n = by_group w.group refl
    where
      by_size : (size : ℕ) → size ≡ length w.history - w.forced → w.pending ≡ [] → (if waits mean w then n else n + 5) ≡ needed_in (Some size) n
      by_size zero is none =
          cond-false (waits mean w) n (n + 5) (
          ap (λ (b : Bool). b || nat_lt 0 (length w.pending)) (le-ltb w.forced (length w.history) (omega (arith, is)))
          ∙ ap (λ (l : List Starts). nat_lt 0 (length l)) none
          )
      by_size (suc k) is none =
          cond-true (waits mean w) n (n + 5) (ap (λ (b : Bool). b || nat_lt 0 (length w.pending)) (lt-ltb w.forced (length w.history) (omega (arith, is))))

      by_group : (group : Option ℕ) → w.group ≡ group → needed mean (is_some w.group) w n ≡ needed_in (group_size before) n
      by_group None is =
          let none : before.group ≡ None = sym holds.shows.group ∙ is in
          ap (λ (o : Option ℕ). needed mean (is_some o) w n) is ∙ sym (ap (λ (o : Option ℕ). needed_in (commands_since before.parts.log.next o) n) none)
      by_group (Some begun) is =
          let some : before.group ≡ Some begun = sym holds.shows.group ∙ is in
          let in_group = subst (λ (o : Option ℕ). IfSome o (IsGroup w.history w.forced)) is holds.shows.sound.group in
          let none = subst (λ (o : Option ℕ). IfSome o (λ b. w.pending ≡ [])) some holds.shows.no_checkpoint in
          let next = next_lsn mean p old before.parts (ungrouped w) holds.shows.shows in
          ap (λ (o : Option ℕ). needed mean (is_some o) w n) is
          ∙ by_size (before.parts.log.next - begun) (omega (arith, next, in_group.stable)) none
          ∙ sym (ap (λ (o : Option ℕ). needed_in (commands_since before.parts.log.next o) n) some)

  -- no group is open where the world says so
  none_open : is_some w.group ≡ false → group_size before ≡ None
  none_open is = ap (λ (o : Option ℕ). commands_since before.parts.log.next o) (sym holds.shows.group ∙ is_none w.group is)
    where
      is_none : (group : Option ℕ) → is_some group ≡ false → group ≡ None
      is_none None is = refl
      is_none (Some begun) is = cc is

  -- what the world says of an answer, the map says
  pub exec_cause : IsLiveMap mean → IsGroupCounted mean → (r : Result ℕ ExecErr) → of_world.HasCauseIn (is_some w.group) mean p.limit w (used_in before) op r → HasCause meaning (group_size before) p commands op r
  exec_cause map counted (Ok n) cause =
      let count = ap (λ (l : List O). length l) holds.commands_are in
      (sym (refusal_same map) ∙ cause.0, omega (arith, cause.2, commands-members_of w.history, count), omega (arith, cause.3, count))
  exec_cause map counted (Err (Refused refusal)) cause = sym (refusal_same map) ∙ cause
  exec_cause map counted (Err (LogFull used need limit)) cause = (sym (refusal_same map) ∙ cause.0, cause.3 ∙ need_same counted (command_length mean op), cause.4)
  exec_cause map counted (Err (LsnEnd lsn)) cause = sym (refusal_same map) ∙ cause.0
  exec_cause map counted (Err DiskFault) cause = ⊎_elim (λ reads. inl reads) (λ accepted. inr (none_open accepted.0, sym (refusal_same map) ∙ accepted.1)) cause
  exec_cause map counted (Err (Damaged file place)) cause = cause
  exec_cause map counted (Err Memory) cause = tt

-- what the call on the store says of a command, by the flag that says whether a group is open
pub record IsExecuted {O : Type 0} (meaning : Bounds → Meaning O) (old new : Disk) (store later : StoreView) (op : O) (r : Result ℕ ExecErr) (grouped : Bool) : Type 0 where
  pub call : of_store.IsCall meaning old new store later 0 (StopsCommand grouped store.parts.volatile.objects.slots.params.limit) (ending_of_exec r)
  pub takes : Takes meaning old new store.parts later.parts (λ m w used. exec_course m grouped store.parts.volatile.objects.slots.params.limit op w used) (ending_of_exec r)
  pub in_world : (p : Params) (w : World O) → Shows (meaning_in meaning p) p old store.parts w → of_world.HasCauseIn grouped (meaning_in meaning p) p.limit w (log_length store) op r
  pub outcome : of_store_command.IsOutcome meaning grouped old new store.parts later.parts op r

-- the engine says the same, of what it shows
module _ {O : Type 0} (meaning : Bounds → Meaning O) (old new : Disk) (store later : StoreView) (group copied : Option ℕ) (op : O) (r : Result ℕ ExecErr) (grouped : Bool) (flag : grouped ≡ is_some group)
    (executed : IsExecuted meaning old new store later op r grouped) (keeps : KeepsRuns meaning) (may : MayExecAll meaning store.parts.volatile.objects.slots.params.limit op) where
  it : IsExecuted meaning old new store later op r (is_some group)
  it = subst (λ (b : Bool). IsExecuted meaning old new store later op r b) flag executed

  abbrev before : EngineView
  before = engine_of store group copied

  abbrev after : EngineView
  after = engine_of later group copied

  taken : TakesIn meaning old new before after (λ m w used. exec_course m (is_some w.group) (params_of before).limit op w used) (ending_of_exec r)
  taken = exec_takes meaning old new before after op r (is_some group) refl keeps may refl (fine meaning old new store later 0 _ (ending_of_exec r) it.call) it.takes

  cause : (p : Params) (w : World O) → ShowsIn meaning p old before w → of_world.HasCauseIn (is_some w.group) (meaning_in meaning p) p.limit w (used_in before) op r
  cause p w shows =
      let m = meaning_in meaning p in
      subst (λ (o : Option ℕ). of_world.HasCauseIn (is_some o) m p.limit w (used_in before) op r) (sym shows.group)
      (world_cause (is_some group) m p.limit w (used_in before) op r (it.in_world p (ungrouped w) shows.shows))

  undone : IfErr r (IsUndone (is_some group) before.parts after.parts)
  undone = by_answer r it.outcome
    where
      by_answer : (r : Result ℕ ExecErr) → of_store_command.IsOutcome meaning (is_some group) old new store.parts later.parts op r → IfErr r (IsUndone (is_some group) before.parts after.parts)
      by_answer (Ok n) outcome = tt
      by_answer (Err e) outcome = outcome.0

  pub ran : ((p : Params) → Stand meaning p) → ((p : Params) → IsLiveMap (meaning_in meaning p)) → ((p : Params) → IsGroupCounted (meaning_in meaning p)) → HasRun meaning old new before after op r
  ran stand map counted = record {
    call = call_of meaning old new store later 0 _ (ending_of_exec r) it.call (params_of before).limit group copied (λ log stop at. at);
    takes = taken;
    ok = λ p commands holds. exec_ok meaning p old new before after op keeps may refl commands holds r (taken.follows p holds.world holds.shows) (cause p holds.world holds.shows);
    err = λ p commands holds. exec_err meaning p old new before after op keeps may refl commands holds r (taken.follows p holds.world holds.shows) (cause p holds.world holds.shows) (is_some group) undone;
    images = λ told p commands holds. exec_images meaning p old new before after op keeps may refl commands holds (stand p) (taken.steps told p holds.world holds.shows);
    in_world = cause;
    on_map = λ p commands holds. exec_cause meaning p old new before after op keeps may refl commands holds (map p) (counted p) r (cause p holds.world holds.shows);
    outcome = it.outcome;
  }
