-- A checkpoint of a call and that of a restart take their courses by that of its taking.
use Rattle.std.proofs.Common.{◌≡◌, ◌∙◌, sym, subst, ap, ℕ, false, List, [], ◌++◌, refl, arith, inl, inr, Option, Some, None}
use Rattle.std.specs.Prelude.{IsFalse, Ok, Err}
use Rattle.std.proofs.lemmas.Bool.{cases_Bool, cond-true, cond-false}
use Rattle.std.proofs.lemmas.List.{append-nil}
use Rattle.disk_model.specs.Disk.{Disk}
use Rattle.oper_core.specs.Meaning.{Meaning}
use Rattle.oper_core.specs.declared.bounds.Bounds.{Bounds}
use Rattle.formats.specs.declared.params.Params.{Params}
use Rattle.log_blocks.specs.LogView.{used_of}
use Rattle.log_records.specs.RecordLog.{RecordLogView}
use Rattle.explain_core.specs.RunLaws.{run-append}
use Rattle.explain_core.specs.Taken.{IsAfterSome, after_longer}
use Rattle.explain_core.specs.World.{World, Step, run}
use Rattle.standing.specs.Moments.{TakesSome, moments_longer, moments_twice}
use Rattle.running_store.specs.Calls.Laws.{unbroken_after}
use Rattle.running_store.specs.Calls.{IsCall, Never, call_as, call_twice, ending_of_store}
use Rattle.running_store.specs.Courses.{Course, Stop, course, force_course, force_steps, is_through}
use Rattle.running_store.specs.Courses.Stop.{Through, Full}
use Rattle.running_store.specs.Steps.Finished.{IsQuiet}
use Rattle.running_store.specs.Steps.Forced.{IsForced}
use Rattle.running_store.specs.Kept.{StopsAt}
use Rattle.formats.specs.Limits.{log_limit}
use Rattle.running_store.specs.Parts.{Parts, Shows, meaning_in}
use Rattle.running_store.specs.StoreView.{StoreView}
use Rattle.running_store.specs.Taking.{Ending, Follows, Takes}
use Rattle.running_store.specs.Taking.Ending.{Done, Stopped, Short, Failed}
use Rattle.running_store.specs.declared.store_err.StoreErr.{StoreErr}
use Rattle.running_store.specs.declared.store_err.StoreErr.TheVariants as of_store
use Rattle.checkpointing.specs.Courses.{taking_course, checkpoint_course, closing_course}
use Rattle.checkpointing.specs.Left.{Overlong, checkpoint_ending}
use Rattle.checkpointing.proofs.Ended.{call_ends, call_on, unstopped}

module _ {O : Type 0} (m : Meaning O) (w : World O) (used : ℕ) where
  abbrev checkpoint : Course O
  checkpoint = taking_course m w used

  abbrev whole : Course O
  whole = checkpoint_course m w used

  abbrev forced : Course O
  forced = course (checkpoint.steps ++ force_steps m (run m w checkpoint.steps)) checkpoint.used checkpoint.stop

  through_is : checkpoint.stop ≡ Through → whole ≡ checkpoint
  through_is is = cond-true (is_through checkpoint.stop) checkpoint forced (ap is_through is)

  stopped_is : (stop : Stop) → IsFalse (is_through stop) → checkpoint.stop ≡ stop → whole ≡ forced
  stopped_is stop none is = cond-false (is_through checkpoint.stop) checkpoint forced (ap is_through is ∙ none)

  -- a checkpoint begins with the steps of its taking
  longer : (rest : List (Step O)) × (whole.steps ≡ checkpoint.steps ++ rest)
  longer = elim (cases_Bool (is_through checkpoint.stop)) [
    | inl is ↦ ([], ap (λ (c : Course O). c.steps) (cond-true (is_through checkpoint.stop) checkpoint forced is) ∙ sym (append-nil checkpoint.steps))
    | inr is ↦ (force_steps m (run m w checkpoint.steps), ap (λ (c : Course O). c.steps) (cond-false (is_through checkpoint.stop) checkpoint forced is))
  ]

module _ {O : Type 0} (meaning : Bounds → Meaning O) (old new : Disk) (before after : Parts) where
  abbrev n : ℕ
  n = used_of before.log.log

  longer_moments : (ending : Ending) → Takes meaning old new before after (λ m w used. taking_course m w used) ending → old.tells_moments → (p : Params) (w : World O) → Shows (meaning_in meaning p) p old before w
      → TakesSome (meaning_in meaning p) p old new w (checkpoint_course (meaning_in meaning p) w n).steps
  longer_moments ending takes told p w shows =
      let m = meaning_in meaning p in
      let more = longer m w n in
      subst (λ (l : List (Step O)). TakesSome m p old new w l) (sym more.1) (moments_longer m p old new w (taking_course m w n).steps more.0 (takes.steps told p w shows))

  -- the checkpoint is done
  pub checkpoint_done : Takes meaning old new before after (λ m w used. taking_course m w used) Done → Takes meaning old new before after (λ m w used. checkpoint_course m w used) Done
  checkpoint_done takes = record {
    follows = λ p w shows.
        let m = meaning_in meaning p in
        let is = takes.follows p w shows in
        subst (λ (c : Course O). Follows m p new after w c Done) (sym (through_is m w n is.0)) is;
    steps = longer_moments Done takes;
  }

  -- it fails
  pub checkpoint_fails : (e : StoreErr) → Takes meaning old new before after (λ m w used. taking_course m w used) (ending_of_store {T = Unit {0}} (Err e))
      → Takes meaning old new before after (λ m w used. checkpoint_course m w used) (ending_of_store {T = Unit {0}} (Err e))
  checkpoint_fails of_store.DiskFault takes = record { follows = λ p w shows. tt; steps = longer_moments Failed takes }
  checkpoint_fails of_store.Memory takes = record {
    follows = λ p w shows.
        let m = meaning_in meaning p in
        let more = longer m w n in
        let P : World O → Type 0 = λ v. Shows m p new after v in
        subst (λ (l : List (Step O)). IsAfterSome m P w l) (sym more.1) (after_longer m P w (taking_course m w n).steps more.0 (takes.follows p w shows));
    steps = longer_moments Short takes;
  }

  closing_moments : (ending : Ending) → Takes meaning old new before after (λ m w used. taking_course m w used) ending → old.tells_moments → (p : Params) (w : World O) → Shows (meaning_in meaning p) p old before w
      → TakesSome (meaning_in meaning p) p old new w (closing_course (meaning_in meaning p) w n).steps
  closing_moments ending takes told p w shows = takes.steps told p w shows

  -- whether a checkpoint has a place or not, it ends a restart
  pub closing_done : (log : RecordLogView) (placed : Option ℕ) → Takes meaning old new before after (λ m w used. taking_course m w used) (checkpoint_ending log (Ok placed)) → Takes meaning old new before after (λ m w used. closing_course m w used) Done
  closing_done log None takes = record { follows = λ p w shows. let is = takes.follows p w shows in (refl, record { shows = is.1.shows; used = is.1.used }); steps = closing_moments _ takes }
  closing_done log (Some need) takes = record { follows = λ p w shows. let is = takes.follows p w shows in (refl, record { shows = is.1.shows; used = is.1.used }); steps = closing_moments _ takes }

  pub closing_fails : (e : StoreErr) → Takes meaning old new before after (λ m w used. taking_course m w used) (ending_of_store {T = Unit {0}} (Err e))
      → Takes meaning old new before after (λ m w used. closing_course m w used) (ending_of_store {T = Unit {0}} (Err e))
  closing_fails of_store.DiskFault takes = record { follows = λ p w shows. tt; steps = closing_moments Failed takes }
  closing_fails of_store.Memory takes = record { follows = λ p w shows. takes.follows p w shows; steps = closing_moments Short takes }

-- the checkpoint has no place, and what waits is forced
module _ {O : Type 0} (meaning : Bounds → Meaning O) (old mid new : Disk) (before here after : Parts) (stop : Stop) (stopped : IsFalse (is_through stop)) (quiet : IsQuiet old mid)
    (takes : Takes meaning old mid before here (λ m w used. taking_course m w used) (Stopped stop)) where
  forced_moments : (ending : Ending) → Takes meaning mid new here after (λ m w used. force_course m w used) ending → old.tells_moments → (p : Params) (w : World O) → Shows (meaning_in meaning p) p old before w
      → TakesSome (meaning_in meaning p) p old new w (checkpoint_course (meaning_in meaning p) w (used_of before.log.log)).steps
  forced_moments ending force told p w shows =
      let m = meaning_in meaning p in
      let is = takes.follows p w shows in
      let n = used_of before.log.log in
      let c = taking_course m w n in
      let v = run m w c.steps in
      subst (λ (e : Course O). TakesSome m p old new w e.steps) (sym (stopped_is m w n stop stopped is.0))
      (moments_twice m p old mid new w c.steps (force_steps m v) (quiet.said shows.told) (takes.steps told p w shows) (force.steps (quiet.time.moments_told.0 told) p v is.1.shows))

  pub checkpoint_unforced : Takes meaning mid new here after (λ m w used. force_course m w used) Failed → Takes meaning old new before after (λ m w used. checkpoint_course m w used) Failed
  checkpoint_unforced force = record { follows = λ p w shows. tt; steps = forced_moments Failed force }

  pub checkpoint_full : Takes meaning mid new here after (λ m w used. force_course m w used) Done → Takes meaning old new before after (λ m w used. checkpoint_course m w used) (Stopped stop)
  checkpoint_full force = record {
    follows = λ p w shows.
        let m = meaning_in meaning p in
        let is = takes.follows p w shows in
        let n = used_of before.log.log in
        let c = taking_course m w n in
        let done = force.follows p (run m w c.steps) is.1.shows in
        subst (λ (e : Course O). Follows m p new after w e (Stopped stop)) (sym (stopped_is m w n stop stopped is.0)) (
          is.0,
          record {
            shows = subst (λ (u : World O). Shows m p new after u) (sym (run-append m w c.steps (force_steps m (run m w c.steps)))) done.1.shows;
            used = done.1.used ∙ is.1.used;
          },
        );
    steps = forced_moments Done force;
  }

module _ {O : Type 0} (meaning : Bounds → Meaning O) (old new : Disk) (before after : StoreView) where
  -- an error of a checkpoint is no stop
  pub refused_call : (then : RecordLogView → Stop → Type 0) (e : StoreErr) → IsCall meaning old new before after 0 Overlong (ending_of_store {T = Unit {0}} (Err e)) → IsCall meaning old new before after 0 then (ending_of_store {T = Unit {0}} (Err e))
  refused_call then e is = call_as meaning old new before after 0 0 Overlong then (ending_of_store {T = Unit {0}} (Err e)) refl (λ stop ends none. absurd (unstopped e stop ends)) is

  -- nor does it stop a restart that the checkpoint has no place
  pub closing_call : (placed : Option ℕ) → IsCall meaning old new before after 0 Overlong (checkpoint_ending after.parts.log (Ok placed)) → IsCall meaning old new before after 0 Never Done
  closing_call None is = call_ends meaning old new before after Overlong Never Done Done (λ failed. failed) (λ failed. failed) tt is
  closing_call (Some need) is = call_ends meaning old new before after Overlong Never (Stopped (Full (used_of after.parts.log.log) need log_limit)) Done (λ failed. failed) (λ failed. failed) tt is

  pub unbroken_placed : (placed : Option ℕ) → IsCall meaning old new before after 0 Overlong (checkpoint_ending after.parts.log (Ok placed)) → after.broken ≡ false
  unbroken_placed placed is = unbroken_after meaning old new before after 0 Never (closing_call placed is)

  -- once what waits is forced, a checkpoint says that it has no place
  pub full_call : (mid : Disk) (here : StoreView) (used need : ℕ) → used ≡ used_of here.parts.log.log → IsCall meaning old mid before here 0 Overlong (checkpoint_ending here.parts.log (Ok (Some need))) → IsCall meaning mid new here after 0 Never Done
      → IsForced here.parts.log after.parts.log → IsCall meaning old new before after 0 (StopsAt log_limit) (Stopped (Full used need log_limit))
  full_call mid here used need same first second forced =
      let over = first.stopped (Full (used_of here.parts.log.log) need log_limit) refl in
      let length = ap (λ (r : RecordLogView). used_of r.log) forced in
      call_ends meaning old new before after Never (StopsAt log_limit) Done (Stopped (Full used need log_limit)) (λ failed. failed) (λ failed. failed)
      (same ∙ sym length, ap (λ (r : RecordLogView). r.log.pending) forced, omega (arith, over.1, same), refl)
      (call_twice meaning old mid new before here after 0 0 Never Never Done (call_ends meaning old mid before here Overlong Never (Stopped (Full (used_of here.parts.log.log) need log_limit)) Done (λ failed. failed) (λ failed. failed) tt first) second)

  pub unforced_call : (mid : Disk) (here : StoreView) (need : ℕ) → IsCall meaning old mid before here 0 Overlong (checkpoint_ending here.parts.log (Ok (Some need))) → IsCall meaning mid new here after 0 Never Failed
      → IsCall meaning old new before after 0 (StopsAt log_limit) Failed
  unforced_call mid here need first second =
      call_twice meaning old mid new before here after 0 0 Never (StopsAt log_limit) Failed
      (call_ends meaning old mid before here Overlong Never (Stopped (Full (used_of here.parts.log.log) need log_limit)) Done (λ failed. failed) (λ failed. failed) tt first)
      (call_on meaning mid new here after Never (StopsAt log_limit) Failed second)
