-- What holds of a command that gets no place in the log.
use Rattle.std.proofs.Common.{◌≡◌, ◌∙◌, sym, subst, ap, ℕ, List, refl, arith}
use Rattle.std.specs.Prelude.{◌<◌, ◌≤◌, ◌^◌, Bool, true, false, None, Result, Ok, Err}
use Rattle.disk_model.specs.Disk.{Disk, Rises}
use Rattle.oper_core.specs.Meaning.{Meaning}
use Rattle.oper_core.specs.declared.bounds.Bounds.{Bounds}
use Rattle.formats.specs.declared.params.Params.{Params}
use Rattle.log_blocks.specs.LogView.{used_of}
use Rattle.log_records.specs.RecordLog.{RecordLogView}
use Rattle.stable_objects.specs.SlotsView.{SlotsView}
use Rattle.explain_core.specs.World.{World, Step}
use Rattle.standing.specs.Moments.{TakesSome}
use Rattle.running_store.specs.Calls.AfterReads.{fetch_takes, fetch_then}
use Rattle.running_store.specs.Calls.{IsCall, IsFailed, IsForce, failed_of}
use Rattle.running_store.specs.Calls.Commands.{command_length, length_with}
use Rattle.running_store.specs.Courses.{Course, course}
use Rattle.running_store.specs.Courses.Stop.{Full, At_end}
use Rattle.running_store.specs.Laid.Fetched.{IsFetched}
use Rattle.running_store.specs.Calls.Fetches.{IsFetch}
use Rattle.running_store.specs.Parts.{Shows, Volatile, meaning_in}
use Rattle.running_store.specs.StoreView.{StoreView, log_length, store_params}
use Rattle.running_store.specs.Taking.{Ending, Takes}
use Rattle.running_store.specs.Taking.Laws.{takes_failed, takes_same}
use Rattle.running_store.specs.Parts.Unchanged.{IsSameLog}
use Rattle.cache_manager.specs.RecordPlace.{growth_low}
use Rattle.execution.specs.Answers.{HasCauseIn, ending_of_error, stop_of_exec}
use Rattle.execution.specs.Courses.{exec_course, refusal_in, unplaced_steps}
use Rattle.execution.specs.Done.{IsForcedOutside, IsOutcome, IsUnplaced, LogWithout}
use Rattle.execution.specs.Failures.{IsAdmissible, IsExecFailure, LacksPlace, needed_by}
use Rattle.execution.specs.Stops.{StopsCommand}
use Rattle.execution.specs.declared.exec_err.ExecErr.{ExecErr}
use Rattle.execution.specs.declared.exec_err.ExecErr.TheVariants.{Refused, DiskFault, Damaged, LogFull, LsnEnd, Memory}
use Rattle.execution.proofs.Causes.{lacks_cause}
use Rattle.execution.proofs.Placed.{end_here, full_here, unforced_here}

-- outside groups it is a force
pub forced_outside : {T E : Type 0} (grouped : Bool) → grouped ≡ false → (before after : StoreView) (r : Result T E) → IsForce before after r → IsForcedOutside grouped before after r
forced_outside grouped outside before after (Ok value) is = (subst (λ (b : Bool). IsUnplaced b before.parts.log after.parts.log) (sym outside) is.0, is.1)
forced_outside grouped outside before after (Err e) is = (outside, is)

-- a store whose disk failed is as it was
pub failed_left : (before after : StoreView) → after ≡ failed_of before → IsSameLog before.parts.log after.parts.log × (after.parts.volatile ≡ before.parts.volatile)
failed_left before after is = (subst (λ (s : StoreView). IsSameLog before.parts.log s.parts.log) (sym is) refl, ap (λ (s : StoreView). s.parts.volatile) is)

-- why a record of n bytes gets none, in the terms of the log after it
module _ (limit : ℕ) (before after : RecordLogView) (n : ℕ) where
  pub full_stops : (grouped : Bool) (used need most : ℕ) → limit < length_with before n → used ≡ used_of before.log → need ≡ needed_by grouped before n → most ≡ limit → IsUnplaced grouped before after
      → StopsCommand grouped limit after (Full used need most)
  full_stops true used need most over held needs is log = (held ∙ sym (ap (λ (r : RecordLogView). used_of r.log) log), omega (arith, over, held, needs, is), is)
  full_stops false used need most over held needs is log = (
    held ∙ sym (ap (λ (r : RecordLogView). used_of r.log) log),
    ap (λ (r : RecordLogView). r.log.pending) log,
    omega (arith, over, held, needs, is, growth_low before.log.pending n),
    is,
  )

  pub end_stops : (grouped : Bool) (lsn : ℕ) → before.next ≤ 2 ^ 62 → 2 ^ 62 ≤ before.next → lsn ≡ before.next → IsUnplaced grouped before after → StopsCommand grouped limit after (At_end lsn)
  end_stops true lsn low last is log = (is ∙ sym (ap (λ (r : RecordLogView). r.next) log), omega (arith, last, is, low))
  end_stops false lsn low last is log = (is ∙ sym (ap (λ (r : RecordLogView). r.next) log), ap (λ (r : RecordLogView). r.log.pending) log, omega (arith, last, is, low))

-- after a fetch
module _ {O : Type 0} (meaning : Bounds → Meaning O) (grouped : Bool) (op : O) (old mid new : Disk) (before here after : StoreView) (is : IsFetch old mid before here ⊥) where
  abbrev p : Params
  p = store_params before

  abbrev whole : Meaning O → World O → ℕ → Course O
  whole m w used = exec_course m grouped p.limit op w used

  abbrev Lacks : Meaning O → ExecErr → Type 0
  Lacks m e = LacksPlace grouped p.limit before.parts.log (command_length m op) e

  same_params : store_params here ≡ p
  same_params = ap (λ (s : SlotsView). s.params) is.read.fetched.slots

  -- why it gets none, by the store before
  pub lacks_before : (n : ℕ) (e : ExecErr) → n ≡ command_length (meaning_in meaning p) op → LacksPlace grouped (store_params here).limit here.parts.log n e → Lacks (meaning_in meaning p) e
  lacks_before n e long lacks =
      subst (λ (l : RecordLogView). LacksPlace grouped p.limit l (command_length (meaning_in meaning p) op) e) is.log
      (subst (λ (q : Params). LacksPlace grouped q.limit here.parts.log (command_length (meaning_in meaning p) op) e) same_params (subst (λ (k : ℕ). LacksPlace grouped (store_params here).limit here.parts.log k e) long lacks))

  lacks_shown : (e : ExecErr) → Lacks (meaning_in meaning p) e → (q : Params) → p ≡ q → Lacks (meaning_in meaning q) e
  lacks_shown e lacks q same = subst (λ (r : Params). Lacks (meaning_in meaning r) e) same lacks

  pub unplaced_call : (ending : Ending) → IsCall meaning mid new here after 0 (StopsCommand grouped (store_params here).limit) ending → IsCall meaning old new before after 0 (StopsCommand grouped p.limit) ending
  unplaced_call ending call =
      fetch_then old mid before here is meaning new after 0 (StopsCommand grouped p.limit) ending
      (subst (λ (q : Params). IsCall meaning mid new here after 0 (StopsCommand grouped q.limit) ending) same_params call)

  lacks_failure : (e : ExecErr) → Lacks (meaning_in meaning p) e → IsAdmissible meaning p op → (IsFailed (ending_of_error e) → Rises old.disk_faults new.disk_faults) → IsExecFailure meaning grouped old new before.parts op e
  lacks_failure (Refused refusal) lacks admissible rises = absurd lacks
  lacks_failure DiskFault lacks admissible rises = rises tt
  lacks_failure (Damaged file place) lacks admissible rises = absurd lacks
  lacks_failure (LogFull used need most) lacks admissible rises = (admissible, lacks)
  lacks_failure (LsnEnd lsn) lacks admissible rises = (admissible, lacks)
  lacks_failure Memory lacks admissible rises = absurd lacks

  pub unplaced_outcome : (e : ExecErr) → Lacks (meaning_in meaning p) e → IsAdmissible meaning p op → (IsFailed (ending_of_error e) → Rises old.disk_faults new.disk_faults)
      → LogWithout grouped here.parts.log after.parts.log e × (after.parts.volatile ≡ here.parts.volatile) → IsOutcome meaning grouped old new before.parts after.parts op (Err e)
  unplaced_outcome e lacks admissible rises left = (
    record {
      log = subst (λ (l : RecordLogView). LogWithout grouped l after.parts.log e) is.log left.0;
      objects = subst (λ (s : Volatile). IsFetched before.parts.volatile.objects s.objects) (sym left.1) is.read.fetched;
      entries = ap (λ (s : Volatile). s.entries) left.1 ∙ is.entries;
    },
    lacks_failure e lacks admissible rises,
  )

  module _ (accepted : (q : Params) (w : World O) → Shows (meaning_in meaning q) q old before.parts w → refusal_in (meaning_in meaning q) w op ≡ None) where
    pub unplaced_takes : (e : ExecErr) → Lacks (meaning_in meaning p) e → Takes meaning mid new here.parts after.parts (λ m w used. course (unplaced_steps m grouped w) used (stop_of_exec e)) (ending_of_error e)
        → Takes meaning old new before.parts after.parts whole (ending_of_error e)
    unplaced_takes e lacks takes = by_error e lacks (fetch_takes old mid before here ⊥ is meaning new after.parts (λ m w used. course (unplaced_steps m grouped w) used (stop_of_exec e)) (ending_of_error e) takes)
      where
        by_error : (e : ExecErr) → Lacks (meaning_in meaning p) e → Takes meaning old new before.parts after.parts (λ m w used. course (unplaced_steps m grouped w) used (stop_of_exec e)) (ending_of_error e)
            → Takes meaning old new before.parts after.parts whole (ending_of_error e)
        by_error (Refused refusal) lacks takes = absurd lacks
        by_error DiskFault lacks takes = takes_failed meaning old new before.parts after.parts whole
            (λ told q w shows.
            let m = meaning_in meaning q in
            subst (λ (l : List (Step O)). TakesSome m q old new w l) (unforced_here m q old before.parts w shows grouped p.limit op (accepted q w shows) (lacks_shown DiskFault lacks q shows.store.params))
            (takes.steps told q w shows))
        by_error (Damaged file place) lacks takes = absurd lacks
        by_error (LogFull held need most) lacks takes =
            takes_same meaning old new before.parts after.parts (λ m w used. course (unplaced_steps m grouped w) used (Full held need most)) whole (Ending.Stopped (Full held need most))
            (λ q w shows. full_here (meaning_in meaning q) q old before.parts w shows grouped p.limit op (accepted q w shows) held need most (lacks_shown (LogFull held need most) lacks q shows.store.params)) takes
        by_error (LsnEnd lsn) lacks takes =
            takes_same meaning old new before.parts after.parts (λ m w used. course (unplaced_steps m grouped w) used (At_end lsn)) whole (Ending.Stopped (At_end lsn))
            (λ q w shows. end_here (meaning_in meaning q) q old before.parts w shows grouped p.limit op (accepted q w shows) lsn (lacks_shown (LsnEnd lsn) lacks q shows.store.params)) takes
        by_error Memory lacks takes = absurd lacks

    pub unplaced_cause : (e : ExecErr) → Lacks (meaning_in meaning p) e → (q : Params) (w : World O) → Shows (meaning_in meaning q) q old before.parts w → HasCauseIn grouped (meaning_in meaning q) q.limit w (log_length before) op (Err e)
    unplaced_cause e lacks q w shows =
        lacks_cause meaning grouped q old new before.parts w shows op (accepted q w shows) e
        (subst (λ (r : Params). LacksPlace grouped r.limit before.parts.log (command_length (meaning_in meaning r) op) e) shows.store.params lacks)
