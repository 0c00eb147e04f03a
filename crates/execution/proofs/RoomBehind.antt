-- Room for a record is looked for once its objects are fetched, and the record goes in behind it.
use Rattle.std.proofs.Common.{◌≡◌, ◌∙◌, sym, subst, ap, ℕ, ◌+◌, ◌≤◌, length, refl, arith}
use Rattle.std.specs.Prelude.{Some}
use Rattle.disk_model.specs.Disk.{Disk, Stays}
use Rattle.oper_core.specs.Meaning.{Meaning}
use Rattle.oper_core.specs.declared.bounds.Bounds.{Bounds}
use Rattle.formats.specs.Limits.{block_limit, log_limit}
use Rattle.formats.specs.Records.{lsn_of}
use Rattle.formats.specs.declared.record.Record.{Record}
use Rattle.log_records.specs.RecordLog.{RecordLogView}
use Rattle.explain_core.specs.History.{Member}
use Rattle.running_store.specs.Calls.AfterReads.{fetch_takes, fetch_then}
use Rattle.running_store.specs.Calls.{IsCall, Never, call_as, call_twice}
use Rattle.running_store.specs.Calls.Fetches.{IsFetch}
use Rattle.running_store.specs.Laid.{Laid}
use Rattle.running_store.specs.StoreView.{StoreView, next_of}
use Rattle.running_store.specs.Taking.{Ending, Takes}
use Rattle.running_store.specs.Taking.Ending.{Done}
use Rattle.execution.specs.Following.{IsFollowFailure, LacksRoom, ending_of_record_error}
use Rattle.execution.specs.Stops.{StopsWithin}
use Rattle.execution.specs.declared.record_err.RecordErr.{RecordErr}
use Rattle.execution.specs.declared.record_err.RecordErr.TheVariants.{Gap, Differs, LogFull, DiskFault, Damaged, Memory}
use Rattle.execution.proofs.Followed.{roomed}

module _ {O : Type 0} (meaning : Bounds → Meaning O) (old mid new : Disk) (before here room : StoreView) (is : IsFetch old mid before here ⊥) where
  pub room_call : (ending : Ending) → IsCall meaning mid new here room 0 (StopsWithin log_limit) ending → IsCall meaning old new before room 0 (StopsWithin log_limit) ending
  room_call ending call = fetch_then old mid before here is meaning new room 0 (StopsWithin log_limit) ending call

  pub room_takes : (n : ℕ) (member : Member O) (ending : Ending) → Takes meaning mid new here.parts room.parts (roomed meaning n member) ending → Takes meaning old new before.parts room.parts (roomed meaning n member) ending
  room_takes n member ending takes = fetch_takes old mid before here ⊥ is meaning new room.parts (roomed meaning n member) ending takes

  pub then_call : (after : StoreView) (logged : ℕ) (ending : Ending) → IsCall meaning mid new here room 0 (StopsWithin log_limit) Done → IsCall meaning new new room after logged Never ending
      → IsCall meaning old new before after logged (StopsWithin log_limit) ending
  then_call after logged ending made goes =
      fetch_then old mid before here is meaning new after logged (StopsWithin log_limit) ending
      (call_as meaning mid new here after (0 + logged) logged (StopsWithin log_limit) (StopsWithin log_limit) ending (omega arith) (λ stop ends so. so)
      (call_twice meaning mid new new here room after 0 logged (StopsWithin log_limit) (StopsWithin log_limit) ending made
      (call_as meaning new new room after logged logged Never (StopsWithin log_limit) ending refl (λ stop ends never. absurd never) goes)))

  -- where the block that waits has room, no file changes
  pub room_stays : (n : ℕ) → (length here.parts.log.log.pending + n ≤ block_limit → new ≡ mid) → length before.parts.log.log.pending + n ≤ block_limit → Stays old new
  room_stays n same short =
      subst (λ (d : Disk). Stays old d) (sym (same (subst (λ (l : RecordLogView). length l.log.pending + n ≤ block_limit) (sym is.log) short))) is.read.stays

  pub room_next : next_of room ≡ next_of here → next_of room ≡ next_of before
  room_next same = same ∙ ap (λ (l : RecordLogView). l.next) is.log

  -- why there is none is why the record is not taken
  pub room_failure : (m : Meaning O) (r : Record O) (objects : Laid) (n : ℕ) (rises : Type 0) (e : RecordErr) → lsn_of r ≡ Some (next_of before) → LacksRoom here.parts.log n rises e
      → IsCall meaning mid new here room 0 (StopsWithin log_limit) (ending_of_record_error e) → IsFollowFailure m r (next_of before) old new objects e
  room_failure m r objects n rises (LogFull used need limit) due lacks call = (due, lacks.1, lacks.2)
  room_failure m r objects n rises DiskFault due lacks call = (due, (room_call Ending.Failed call).fault tt)
  room_failure m r objects n rises (Gap expected got) due lacks call = absurd lacks
  room_failure m r objects n rises (Differs lsn) due lacks call = absurd lacks
  room_failure m r objects n rises (Damaged file place) due lacks call = absurd lacks
  room_failure m r objects n rises Memory due lacks call = absurd lacks
