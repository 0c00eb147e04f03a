-- What follows from a call that is done: the store is not broken, and memory may be short after it. Calls that log identity
-- writes, one after the other.
use Rattle.std.proofs.Common.{◌≡◌, ◌+◌, sym, ap, ℕ, false, arith}
use Rattle.std.specs.Prelude.{IsErrAnd, Result}
use Rattle.std.proofs.lemmas.Bool.{false_from_ne_true}
use Rattle.std.proofs.lemmas.Result.{err_from_is_err_and}
use Rattle.disk_model.specs.Disk.{Disk}
use Rattle.oper_core.specs.Meaning.{Meaning}
use Rattle.oper_core.specs.declared.bounds.Bounds.{Bounds}
use Rattle.log_records.specs.RecordLog.{RecordLogView}
use Rattle.running_store.specs.Calls.{IsCall, Never, ending_of_force, call_as, call_twice}
use Rattle.running_store.specs.Courses.{Stop}
use Rattle.running_store.specs.StoreView.{StoreView, logged_since, next_of}
use Rattle.running_store.specs.Taking.{Ending}
use Rattle.running_store.specs.Taking.Ending.{Done, Short, Failed}

module _ {O : Type 0} (meaning : Bounds → Meaning O) (old new : Disk) (before after : StoreView) where
  module _ (n : ℕ) (stops : RecordLogView → Stop → Type 0) (is : IsCall meaning old new before after n stops Done) where
    pub unbroken_after : after.broken ≡ false
    unbroken_after = false_from_ne_true after.broken (λ set. is.broken.0 set)

    -- what is done before memory is short
    pub call_short : IsCall meaning old new before after n stops Short
    call_short = record {
      quiet = is.quiet;
      layout = is.layout;
      rising = is.rising;
      identities = is.identities;
      settled = is.settled;
      kept = is.kept;
      attached = is.attached;
      stopped = λ other same. cc;
      broken = is.broken;
      fault = is.fault;
    }

  -- A call that gives LSNs to identity writes alone, and is stopped for some reason.
  abbrev pub IsLogging : (RecordLogView → Stop → Type 0) → Ending → Type 0
  IsLogging stops ending = IsCall meaning old new before after (logged_since before after) stops ending

  -- one that gives no LSN
  pub logging_none : (stops : RecordLogView → Stop → Type 0) (ending : Ending) → next_of after ≡ next_of before → IsCall meaning old new before after 0 Never ending → IsLogging stops ending
  logging_none stops ending same is = call_as meaning old new before after 0 (logged_since before after) Never stops ending (omega (arith, same)) (λ stop ends none. absurd none) is

-- an answer that is an error ends a call that fails with the disk alone
pub failed_force : {T E : Type 0} (P : E → Type 0) (r : Result T E) → IsErrAnd r P → Failed ≡ ending_of_force r
failed_force P r is = let q = err_from_is_err_and r is in ap ending_of_force (sym q.1)

-- one after the other
pub logging_twice : {O : Type 0} (meaning : Bounds → Meaning O) (old mid new : Disk) (before here after : StoreView) (stops : RecordLogView → Stop → Type 0) (ending : Ending)
    → IsLogging meaning old mid before here stops Done → IsLogging meaning mid new here after stops ending → IsLogging meaning old new before after stops ending
logging_twice meaning old mid new before here after stops ending first second =
    call_as meaning old new before after (logged_since before here + logged_since here after) (logged_since before after) stops stops ending (omega (arith, first.rising, second.rising)) (λ stop ends so. so)
    (call_twice meaning old mid new before here after (logged_since before here) (logged_since here after) stops stops ending first second)
