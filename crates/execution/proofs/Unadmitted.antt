-- What holds of a command that is not admitted.
use Rattle.std.proofs.Common.{◌≡◌, ◌<◌, sym, subst, inl, refl, ℕ, List, [], length}
use Rattle.std.specs.Prelude.{Bool, Err}
use Rattle.disk_model.specs.Disk.{Disk, IsDisk, Rises}
use Rattle.disk_model.specs.declared.machine.FileNo.TheVariants.{Objects}
use Rattle.oper_core.specs.Meaning.{Meaning, HasBounds, IsSmall, IsLawful}
use Rattle.oper_core.specs.declared.bounds.Bounds.{Bounds}
use Rattle.formats.specs.Reading.{FailsBy}
use Rattle.formats.specs.declared.params.Params.{Params}
use Rattle.formats.specs.declared.read_err.ReadErr.{ReadErr}
use Rattle.formats.specs.declared.read_err.ReadErr.TheVariants as of_read
use Rattle.log_blocks.specs.LogView.{used_of}
use Rattle.log_records.specs.RecordLog.{RecordLogView}
use Rattle.explain_core.specs.World.{World}
use Rattle.running_store.specs.Calls.AfterReads.{fetch_takes}
use Rattle.running_store.specs.Calls.{IsCall, IsFailed}
use Rattle.running_store.specs.Courses.{Course, Stop, course}
use Rattle.running_store.specs.Courses.Stop.{Through}
use Rattle.running_store.specs.Calls.Fetches.{IsFetch, fetch_call}
use Rattle.running_store.specs.Laid.{Laid, IsLaidOn, values_in}
use Rattle.running_store.specs.Laid.LongSlot.{HasLongSlot}
use Rattle.running_store.specs.Parts.{meaning_in}
use Rattle.running_store.specs.StoreView.{StoreView, store_params}
use Rattle.running_store.specs.Taking.{Ending, Takes}
use Rattle.running_store.specs.Taking.Laws.{takes_failed, takes_none, takes_nothing, takes_same}
use Rattle.execution.specs.Answers.{ending_of_error}
use Rattle.execution.specs.Courses.{exec_course}
use Rattle.execution.specs.Done.{IsOutcome, LogWithout}
use Rattle.execution.specs.Failures.{IsAdmitFailure, IsAdmittedOn, IsExecFailure, exec_from_read}
use Rattle.execution.specs.Stops.{StopsCommand}
use Rattle.execution.specs.declared.exec_err.ExecErr.{ExecErr}
use Rattle.execution.specs.declared.exec_err.ExecErr.TheVariants.{Refused, DiskFault, Damaged, LogFull, LsnEnd, Memory}
use Rattle.execution.proofs.Admitted.{refused_here}
use Rattle.execution.proofs.Placed.{exec_refused}

-- why the objects that a command reads are not read is why it is not admitted
pub unread : {O : Type 0} (meaning : Bounds → Meaning O) (p : Params) (op : O) (old new : Disk) (objects : Laid) (reads : List ℕ) (e : ReadErr) → reads ≡ (meaning_in meaning p).reads op → 0 < length reads
    → FailsBy (Rises old.disk_faults new.disk_faults) (HasLongSlot new objects.slots reads) e → IsAdmitFailure meaning p op old new objects (exec_from_read e)
unread meaning p op old new objects reads of_read.DiskFault are some fails = fails
unread meaning p op old new objects reads (of_read.Damaged file place) are some fails = subst (λ (l : List ℕ). HasLongSlot new objects.slots l file place) are fails
unread meaning p op old new objects reads of_read.Memory are some fails = inl (subst (λ (l : List ℕ). 0 < length l) are some)

module _ {O : Type 0} (meaning : Bounds → Meaning O) (grouped : Bool) (op : O) (old mid : Disk) (before here : StoreView) where
  abbrev p : Params
  p = store_params before

  abbrev whole : Meaning O → World O → ℕ → Course O
  whole m w used = exec_course m grouped p.limit op w used

  abbrev Fails : ExecErr → Type 0
  Fails e = IsAdmitFailure meaning p op old mid before.parts.volatile.objects e

  -- what its error says: of a fault, of a stop, which it is not, of why it is not done, and of the log
  pub record Tells (e : ExecErr) : Type 0 where
    pub rises : IsFailed (ending_of_error e) → Rises old.disk_faults mid.disk_faults
    pub stops : (most : ℕ) (log : RecordLogView) (stop : Stop) → ending_of_error e ≡ Ending.Stopped stop → StopsCommand grouped most log stop
    pub failure : IsExecFailure meaning grouped old mid before.parts op e
    pub log : LogWithout grouped before.parts.log before.parts.log e

  pub tells : (e : ExecErr) → Fails e → Tells e
  tells (Refused refusal) fails = record { rises = λ failed. absurd failed; stops = λ most log stop is. cc is; failure = fails; log = refl }
  tells DiskFault fails = record { rises = λ failed. fails; stops = λ most log stop is. cc is; failure = fails; log = refl }
  tells (Damaged file place) fails = record { rises = λ failed. absurd failed; stops = λ most log stop is. cc is; failure = fails; log = refl }
  tells (LogFull used need limit) fails = absurd fails
  tells (LsnEnd lsn) fails = absurd fails
  tells Memory fails = record { rises = λ failed. absurd failed; stops = λ most log stop is. cc is; failure = inl fails; log = refl }

  pub unadmitted_call : (e : ExecErr) → Fails e → IsFetch old mid before here (IsFailed (ending_of_error e)) → IsCall meaning old mid before here 0 (StopsCommand grouped p.limit) (ending_of_error e)
  unadmitted_call e fails is =
      fetch_call meaning old mid before here (IsFailed (ending_of_error e)) (StopsCommand grouped p.limit) (ending_of_error e) is (λ failed. failed, λ failed. failed)
      ((tells e fails).stops p.limit here.parts.log) (tells e fails).rises

  module _ (failed : Type 0) (is : IsFetch old mid before here failed) where
    pub unadmitted_outcome : (e : ExecErr) → Fails e → IsOutcome meaning grouped old mid before.parts here.parts op (Err e)
    unadmitted_outcome e fails = (
      record { log = subst (λ (l : RecordLogView). LogWithout grouped before.parts.log l e) (sym is.log) (tells e fails).log; objects = is.read.fetched; entries = is.entries },
      (tells e fails).failure,
    )

    module _ (lawful : IsDisk mid) (bounded : (b : Bounds) → HasBounds b (meaning b)) (laws : (b : Bounds) → IsSmall b → IsLawful (meaning b)) where
      -- no step was taken
      unread_takes : Takes meaning old mid before.parts here.parts whole Ending.Short
      unread_takes = fetch_takes old mid before here failed is meaning mid here.parts whole Ending.Short (takes_nothing meaning mid here.parts lawful whole)

      pub unadmitted_takes : (e : ExecErr) → Fails e
          → (old.tells_files → IsLaidOn before.parts.volatile.objects (old.reads Objects) → IsAdmittedOn (meaning_in meaning p) (values_in before.parts.volatile.objects (old.reads Objects)) op (Err e))
          → Takes meaning old mid before.parts here.parts whole (ending_of_error e)
      unadmitted_takes (Refused r) fails shown =
          let none : Meaning O → World O → ℕ → Course O = λ m w used. course [] used Through in
          takes_same meaning old mid before.parts here.parts none whole Ending.Done
          (λ q w shows. sym (exec_refused (meaning_in meaning q) grouped p.limit op w (used_of before.parts.log.log) r (refused_here meaning bounded laws q old before.parts w shows op r shown)))
          (fetch_takes old mid before here failed is meaning mid here.parts none Ending.Done (takes_none meaning mid here.parts lawful))
      unadmitted_takes DiskFault fails shown = takes_failed meaning old mid before.parts here.parts whole unread_takes.steps
      unadmitted_takes (Damaged file place) fails shown = unread_takes
      unadmitted_takes (LogFull used need limit) fails shown = absurd fails
      unadmitted_takes (LsnEnd lsn) fails shown = absurd fails
      unadmitted_takes Memory fails shown = unread_takes
