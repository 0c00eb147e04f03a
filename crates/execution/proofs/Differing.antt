-- What holds of a command of another log that is not admitted.
use Rattle.std.proofs.Common.{◌≡◌, ◌∙◌, sym, subst, ℕ, [], refl}
use Rattle.std.specs.Prelude.{true, Some, Err}
use Rattle.disk_model.specs.Disk.{Disk, IsDisk}
use Rattle.disk_model.specs.declared.machine.FileNo.TheVariants.{Objects}
use Rattle.oper_core.specs.Meaning.{Meaning, HasBounds, IsSmall, IsLawful}
use Rattle.oper_core.specs.declared.bounds.Bounds.{Bounds}
use Rattle.formats.specs.Limits.{log_limit}
use Rattle.formats.specs.declared.params.Params.{Params}
use Rattle.formats.specs.declared.record.Record.TheVariants.{Command as Logged}
use Rattle.log_blocks.specs.LogView.{used_of}
use Rattle.explain_core.specs.History.Member.{Command}
use Rattle.explain_core.specs.World.{World}
use Rattle.running_store.specs.Calls.AfterReads.{fetch_takes}
use Rattle.running_store.specs.Steps.Appended.{next_lsn}
use Rattle.running_store.specs.Calls.{IsCall, IsFailed}
use Rattle.running_store.specs.Courses.{Course, course}
use Rattle.running_store.specs.Courses.Stop.{Through}
use Rattle.running_store.specs.Calls.Fetches.{IsFetch, fetch_call}
use Rattle.running_store.specs.Laid.{IsLaidOn, values_in}
use Rattle.running_store.specs.Laid.LongSlot.{long_untold}
use Rattle.running_store.specs.Parts.{Shows, meaning_in}
use Rattle.running_store.specs.StoreView.{StoreView, log_length, next_of, store_params}
use Rattle.running_store.specs.Taking.{Ending, Takes}
use Rattle.running_store.specs.Taking.Laws.{takes_failed, takes_none, takes_nothing, takes_same}
use Rattle.execution.specs.Answers.{ending_of_error}
use Rattle.execution.specs.Failures.{IsAdmitFailure, IsAdmittedOn}
use Rattle.execution.specs.Following.{HasMemberCause, IsFollowFailure, ending_of_record_error, member_course}
use Rattle.execution.specs.RecordFailures.{record_from_exec}
use Rattle.execution.specs.Stops.{StopsWithin}
use Rattle.execution.specs.declared.exec_err.ExecErr.{ExecErr}
use Rattle.execution.specs.declared.exec_err.ExecErr.TheVariants.{Refused, DiskFault, Damaged, LogFull, LsnEnd, Memory}
use Rattle.execution.proofs.Admitted.{refused_here}
use Rattle.execution.proofs.Judging.{may_not_is, refused_may_not}
use Rattle.execution.proofs.Unadmitted.{tells}

module _ {O : Type 0} (meaning : Bounds → Meaning O) (op : O) (lsn : ℕ) (old mid : Disk) (before here : StoreView) where
  abbrev p : Params
  p = store_params before

  abbrev whole : Meaning O → World O → ℕ → Course O
  whole m w used = member_course m (Command op) w used

  abbrev Fails : ExecErr → Type 0
  Fails e = IsAdmitFailure meaning p op old mid before.parts.volatile.objects e

  -- it ended so
  differs_ends : (e : ExecErr) → Fails e → ending_of_error e ≡ ending_of_record_error (record_from_exec lsn e)
  differs_ends (Refused refusal) fails = refl
  differs_ends DiskFault fails = refl
  differs_ends (Damaged file place) fails = refl
  differs_ends (LogFull used need limit) fails = refl
  differs_ends (LsnEnd end) fails = absurd fails
  differs_ends Memory fails = refl

  pub differs_call : (e : ExecErr) → Fails e → IsFetch old mid before here (IsFailed (ending_of_error e)) → IsCall meaning old mid before here 0 (StopsWithin log_limit) (ending_of_record_error (record_from_exec lsn e))
  differs_call e fails is =
      let told = tells meaning true op old mid before here e fails in
      subst (λ (k : Ending). IsCall meaning old mid before here 0 (StopsWithin log_limit) k) (differs_ends e fails)
      (fetch_call meaning old mid before here (IsFailed (ending_of_error e)) (StopsWithin log_limit) (ending_of_error e) is (λ failed. failed, λ failed. failed) (told.stops log_limit here.parts.log) told.rises)

  pub differs_failure : (e : ExecErr) → lsn ≡ next_of before → Fails e → IsFollowFailure (meaning_in meaning p) (Logged (next_of before) op) (next_of before) old mid before.parts.volatile.objects (record_from_exec lsn e)
  differs_failure (Refused refusal) next fails = ((λ i. Some (sym next i)), next)
  differs_failure DiskFault next fails = (refl, fails)
  differs_failure (Damaged file place) next fails = (refl, fails)
  differs_failure (LogFull used need limit) next fails = absurd fails
  differs_failure (LsnEnd end) next fails = absurd fails
  differs_failure Memory next fails = refl

  module _ (failed : Type 0) (is : IsFetch old mid before here failed) (bounded : (b : Bounds) → HasBounds b (meaning b)) (laws : (b : Bounds) → IsSmall b → IsLawful (meaning b)) (e : ExecErr) (fails : Fails e)
      (shown : old.tells_files → IsLaidOn before.parts.volatile.objects (old.reads Objects) → IsAdmittedOn (meaning_in meaning p) (values_in before.parts.volatile.objects (old.reads Objects)) op (Err e)) where
    pub differs_cause : lsn ≡ next_of before → (q : Params) (w : World O) → Shows (meaning_in meaning q) q old before.parts w → HasMemberCause (meaning_in meaning q) w (log_length before) (Command op) (Err (record_from_exec lsn e))
    differs_cause next q w shows = by_error e fails shown
      where
        by_error : (e : ExecErr) → Fails e → (old.tells_files → IsLaidOn before.parts.volatile.objects (old.reads Objects) → IsAdmittedOn (meaning_in meaning p) (values_in before.parts.volatile.objects (old.reads Objects)) op (Err e))
            → HasMemberCause (meaning_in meaning q) w (log_length before) (Command op) (Err (record_from_exec lsn e))
        by_error (Refused r) fails shown =
            let m = meaning_in meaning q in
            (refused_may_not m w op r (refused_here meaning bounded laws q old before.parts w shows op r shown), next ∙ next_lsn m q old before.parts w shows)
        by_error DiskFault fails shown = tt
        by_error (Damaged file place) fails shown = long_untold before.parts.volatile.objects.slots fails.object file place is.read.stays shows.told shows.store.laid.slots fails.slot
        by_error (LogFull used need limit) fails shown = absurd fails
        by_error (LsnEnd end) fails shown = absurd fails
        by_error Memory fails shown = tt

    module _ (lawful : IsDisk mid) where
      unread : Takes meaning old mid before.parts here.parts whole Ending.Short
      unread = fetch_takes old mid before here failed is meaning mid here.parts whole Ending.Short (takes_nothing meaning mid here.parts lawful whole)

      pub differs_takes : Takes meaning old mid before.parts here.parts whole (ending_of_record_error (record_from_exec lsn e))
      differs_takes = by_error e fails shown
        where
          by_error : (e : ExecErr) → Fails e → (old.tells_files → IsLaidOn before.parts.volatile.objects (old.reads Objects) → IsAdmittedOn (meaning_in meaning p) (values_in before.parts.volatile.objects (old.reads Objects)) op (Err e))
              → Takes meaning old mid before.parts here.parts whole (ending_of_record_error (record_from_exec lsn e))
          by_error (Refused r) fails shown =
              let none : Meaning O → World O → ℕ → Course O = λ m w used. course [] used Through in
              takes_same meaning old mid before.parts here.parts none whole Ending.Done
              (λ q w shows. let m = meaning_in meaning q in may_not_is m w (Command op) (used_of before.parts.log.log) (refused_may_not m w op r (refused_here meaning bounded laws q old before.parts w shows op r shown)))
              (fetch_takes old mid before here failed is meaning mid here.parts none Ending.Done (takes_none meaning mid here.parts lawful))
          by_error DiskFault fails shown = takes_failed meaning old mid before.parts here.parts whole unread.steps
          by_error (Damaged file place) fails shown = unread
          by_error (LogFull used need limit) fails shown = absurd fails
          by_error (LsnEnd end) fails shown = absurd fails
          by_error Memory fails shown = unread
