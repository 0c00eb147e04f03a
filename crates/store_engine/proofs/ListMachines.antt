-- What holds on every machine of commands that are run and objects that are fetched.
use Rattle.std.proofs.Common.{◌≡◌, ◌∙◌, subst, ℕ, ◌≤◌, false, refl, inl, inr, ◌⊎◌, ⊎_elim, Option, None, Some, arith}
use Rattle.std.specs.Prelude.{◌↔◌, Result, Ok, Err, IfSome}
use Rattle.std.specs.Option.{is_some}
use Rattle.std.specs.Result.{result_err}
use Rattle.std.proofs.lemmas.Bool.{both_ways}
use Rattle.disk_model.specs.Disk.{Disk, IsDisk, Rises, Stays}
use Rattle.disk_model.specs.Moments.{passes_none, passes_twice}
use Rattle.disk_model.specs.declared.machine.FileNo.{FileNo}
use Rattle.oper_core.specs.Meaning.{Meaning}
use Rattle.oper_core.specs.declared.bounds.Bounds.{Bounds}
use Rattle.formats.specs.declared.params.Params.{Params}
use Rattle.formats.specs.declared.read_err.ReadErr.{ReadErr}
use Rattle.formats.specs.declared.read_err.ReadErr.TheVariants as of_read
use Rattle.stable_objects.specs.SlotsView.{SlotsView, holder_in, place_of}
use Rattle.running_store.specs.Courses.{Stop}
use Rattle.running_store.specs.Laid.LongSlot.{IsLongSlot}
use Rattle.running_store.specs.Taking.{Ending}
use Rattle.running_store.specs.Taking.Ending.{Stopped}
use Rattle.execution.specs.Answers.{ending_of_exec}
use Rattle.execution.specs.Stops.{StopsCommand}
use Rattle.execution.specs.declared.exec_err.ExecErr.{ExecErr}
use Rattle.execution.specs.declared.exec_err.ExecErr.TheVariants.{Refused, LogFull, LsnEnd, DiskFault, Damaged, Memory}
use Rattle.running_store.specs.Calls.{IsFailed}
use Rattle.store_engine.specs.Engine.{EngineView, IsAttached, IsEngineCall, params_of}
use Rattle.store_engine.specs.FailureLaws.{none_damaged, still_none_damaged}
use Rattle.store_engine.specs.Failures.{IsFetchFailure}
use Rattle.store_engine.specs.Lists.{AreCalls, IsReadAsLong, IsUndamaged, as_exec, ending_of}
use Rattle.store_engine.specs.Commands.{HasFetched, HasRun}

-- a count that rises in a later call has risen since an earlier one
rises_later : (a b c : ℕ) → a ≤ b → Rises b c → Rises a c
rises_later a b c le rises below = omega (arith, le, rises below)

-- ---- no call

pub calls_none : {O : Type 0} (meaning : Bounds → Meaning O) (d : Disk) (e : EngineView) → e.broken ≡ false → AreCalls meaning d d e e None
calls_none meaning d e fine = record {
  call = record {
    time = passes_none d;
    quiet = λ told. refl;
    params = refl;
    group = refl;
    copied = refl;
    attached = inr (λ attached. attached);
    identities = omega arith;
    stopped = λ stop is. cc;
    broken = ((λ broken. both_ways _ fine broken), (λ failed. absurd failed));
    fault = λ failed. absurd failed;
  };
  undamaged = λ told attached. tt;
  damaged = tt;
}

-- a value that is too long was read
read_as_long : {new : Disk} {slots : SlotsView} {object : ℕ} {file : FileNo} {place : ℕ} → IsLongSlot new slots object file place → IsReadAsLong new slots.params.cap (Some (Damaged file place))
read_as_long {slots = slots} {object = object} long = (long.file_is, place_of slots object (holder_in slots object), long.long)

module _ {O : Type 0} (meaning : Bounds → Meaning O) (old new : Disk) (before after : EngineView) where
  -- ---- a command

  same_ending : (r : Result ℕ ExecErr) → ending_of_exec r ≡ ending_of (result_err r)
  same_ending (Ok n) = refl
  same_ending (Err e) = refl

  undamaged_run : IsDisk new → (op : O) (r : Result ℕ ExecErr) → HasRun meaning old new before after op r → old.tells_files → IsAttached meaning old before → IsUndamaged (result_err r)
  undamaged_run lawful op (Ok n) ran told attached = tt
  undamaged_run lawful op (Err (Refused refusal)) ran told attached = tt
  undamaged_run lawful op (Err (LogFull used need limit)) ran told attached = tt
  undamaged_run lawful op (Err (LsnEnd lsn)) ran told attached = tt
  undamaged_run lawful op (Err DiskFault) ran told attached = tt
  undamaged_run lawful op (Err (Damaged file place)) ran told attached =
      still_none_damaged meaning before.parts after.parts lawful ran.call.time ran.outcome.0.objects.slots (⊎_elim (λ failed. absurd failed) (λ keeps. keeps) ran.call.attached) told attached ran.outcome.1.slot
  undamaged_run lawful op (Err Memory) ran told attached = tt

  damaged_run : (op : O) (r : Result ℕ ExecErr) → HasRun meaning old new before after op r → IsReadAsLong new (params_of before).cap (result_err r)
  damaged_run op (Ok n) ran = tt
  damaged_run op (Err (Refused refusal)) ran = tt
  damaged_run op (Err (LogFull used need limit)) ran = tt
  damaged_run op (Err (LsnEnd lsn)) ran = tt
  damaged_run op (Err DiskFault) ran = tt
  damaged_run op (Err (Damaged file place)) ran = read_as_long ran.outcome.1.slot
  damaged_run op (Err Memory) ran = tt

  pub calls_run : IsDisk new → (op : O) (r : Result ℕ ExecErr) → HasRun meaning old new before after op r → AreCalls meaning old new before after (result_err r)
  calls_run lawful op r ran = record {
    call = subst (λ (e : Ending). IsEngineCall meaning (params_of before).limit old new before after 0 e) (same_ending r) ran.call;
    undamaged = undamaged_run lawful op r ran;
    damaged = damaged_run op r ran;
  }

  -- ---- an object

  module _ (object : ℕ) where
    abbrev Failure : Option ReadErr → Type 0
    Failure error = IfSome error (IsFetchFailure old new before object)

    not_stopped : (error : Option ReadErr) (most : ℕ) (stop : Stop) → ending_of (as_exec error) ≡ Stopped stop → StopsCommand (is_some before.group) most after.parts.log stop
    not_stopped None most stop is = cc
    not_stopped (Some of_read.DiskFault) most stop is = cc
    not_stopped (Some (of_read.Damaged file place)) most stop is = cc
    not_stopped (Some of_read.Memory) most stop is = cc

    -- the disk failed exactly where it is the answer
    fails_so : (error : Option ReadErr) → (error ≡ Some of_read.DiskFault) ↔ IsFailed (ending_of (as_exec error))
    fails_so None = ((λ e. cc), (λ failed. absurd failed))
    fails_so (Some of_read.DiskFault) = ((λ e. tt), (λ failed. refl))
    fails_so (Some (of_read.Damaged file place)) = ((λ e. cc), (λ failed. absurd failed))
    fails_so (Some of_read.Memory) = ((λ e. cc), (λ failed. absurd failed))

    fault_of : (error : Option ReadErr) → Failure error → IsFailed (ending_of (as_exec error)) → Rises old.disk_faults new.disk_faults
    fault_of None cause failed = absurd failed
    fault_of (Some of_read.DiskFault) cause failed = cause.1
    fault_of (Some (of_read.Damaged file place)) cause failed = absurd failed
    fault_of (Some of_read.Memory) cause failed = absurd failed

    undamaged_fetch : Stays old new → (error : Option ReadErr) → Failure error → old.tells_files → IsAttached meaning old before → IsUndamaged (as_exec error)
    undamaged_fetch stays None cause told attached = tt
    undamaged_fetch stays (Some of_read.DiskFault) cause told attached = tt
    undamaged_fetch stays (Some (of_read.Damaged file place)) cause told attached = none_damaged meaning before.parts stays told attached cause.1
    undamaged_fetch stays (Some of_read.Memory) cause told attached = tt

    damaged_fetch : (error : Option ReadErr) → Failure error → IsReadAsLong new (params_of before).cap (as_exec error)
    damaged_fetch None cause = tt
    damaged_fetch (Some of_read.DiskFault) cause = tt
    damaged_fetch (Some (of_read.Damaged file place)) cause = read_as_long cause.1
    damaged_fetch (Some of_read.Memory) cause = tt

    pub calls_fetched : (error : Option ReadErr) → HasFetched meaning old new before after object error → AreCalls meaning old new before after (as_exec error)
    calls_fetched error fetched = record {
      call = record {
        time = fetched.call.kept.time;
        quiet = fetched.call.kept.said;
        params = fetched.params;
        group = fetched.call.group;
        copied = fetched.call.copied;
        attached = inr fetched.call.attached;
        identities = omega (arith, fetched.call.identities);
        stopped = not_stopped error (params_of before).limit;
        broken = ((λ broken. (fails_so error).0 (fetched.call.broken.0 broken)), (λ failed. fetched.call.broken.1 ((fails_so error).1 failed)));
        fault = fault_of error fetched.cause;
      };
      undamaged = undamaged_fetch fetched.call.kept error fetched.cause;
      damaged = damaged_fetch error fetched.cause;
    }

-- ---- calls after calls

module _ {O : Type 0} (meaning : Bounds → Meaning O) (old mid new : Disk) (before between after : EngineView) (error : Option ExecErr) (lawful : IsDisk new)
    (first : AreCalls meaning old mid before between None) (second : AreCalls meaning mid new between after error) where
  still_attached : IsAttached meaning old before → IsAttached meaning mid between
  still_attached = ⊎_elim (λ failed. absurd failed) (λ keeps. keeps) first.call.attached

  pub calls_joined : AreCalls meaning old new before after error
  calls_joined = record {
    call = record {
      time = passes_twice old mid new lawful first.call.time second.call.time;
      quiet = λ told. second.call.quiet (first.call.time.files_told.0 told) ∙ first.call.quiet told;
      params = second.call.params ∙ first.call.params;
      group = second.call.group ∙ first.call.group;
      copied = second.call.copied ∙ first.call.copied;
      attached = ⊎_elim (λ failed. inl failed) (λ keeps. inr (λ attached. keeps (still_attached attached))) second.call.attached;
      identities = omega (arith, first.call.identities, second.call.identities);
      stopped = λ stop is.
          subst (λ (o : Option ℕ). StopsCommand (is_some o) (params_of before).limit after.parts.log stop) first.call.group
          (subst (λ (q : Params). StopsCommand (is_some between.group) q.limit after.parts.log stop) first.call.params (second.call.stopped stop is));
      broken = second.call.broken;
      fault = λ failed. rises_later old.disk_faults mid.disk_faults new.disk_faults first.call.time.disk_faults (second.call.fault failed);
    };
    undamaged = λ told attached. second.undamaged (first.call.time.files_told.0 told) (still_attached attached);
    damaged = subst (λ (q : Params). IsReadAsLong new q.cap error) first.call.params second.damaged;
  }
