-- Calls on the store of a session, or within the transaction that is open on it.
use Rattle.std.proofs.Common.{◌≡◌, ◌++◌, true, false, List, [], None, Option, Some, Result, Ok, Err, ap, refl, subst, sym}
use Rattle.std.specs.Prelude.{IfErr, IfOk}
use Rattle.disk_model.specs.Disk.{Disk}
use Rattle.formats.specs.declared.params.Params.{Params}
use Rattle.execution.specs.declared.exec_err.ExecErr.{ExecErr}
use Rattle.execution.specs.declared.exec_err.ExecErr.TheVariants.{DiskFault}
use Rattle.op_codec.specs.AllOps.{AllOps, all_meaning}
use Rattle.running_store.specs.Taking.Ending.{Done}
use Rattle.store_engine.specs.Engine.{Holds}
use Rattle.store_engine.specs.Lists.{AddsFront, AreCalls, ending_of}
use Rattle.range_calls.specs.Answers.{cause_in, cause_of, told}
use Rattle.range_calls.specs.declared.call_err.CallErr.{CallErr}
use Rattle.range_calls.specs.declared.call_err.CallErr.TheVariants.{Exec}
use Rattle.transactions.specs.declared.transaction.Transaction.{Transaction}
use Rattle.write_queue.specs.Memory.{disk_of}
use Rattle.write_queue.specs.declared.queue_mem.QueueMem.{QueueMem}
use Rattle.embed.specs.Embedded.{IsStillBroken}
use Rattle.embed.specs.Within.{IsCallWithin, stages_none}
use Rattle.embed.specs.declared.store.Store.{Store}
use Rattle.embed_c.specs.PageMaps.{reading, seen_as}
use Rattle.embed_c.specs.Ranges.{Does, Stages}
use Rattle.embed_c.specs.Within.{InTransaction, OnStaging, OnStore}
use Rattle.embed_c.proofs.Named.{error_again, never_err}

module _ {R : Type 0} (does : OnStore R) (within : InTransaction R) (old new : Store QueueMem) (made : R) where
  -- no transaction is open
  pub made_outside : {o : Option (Transaction AllOps)} → o ≡ None → does old new made → OnStaging does within old new o o made
  made_outside none done = subst (λ (o : Option (Transaction AllOps)). OnStaging does within old new o o made) (sym none) (done, refl)

  -- one is
  pub made_inside : {o : Option (Transaction AllOps)} {t u : Transaction AllOps} → o ≡ Some t → within old new t u made → OnStaging does within old new o (Some u) made
  made_inside {u = u} some done = subst (λ (o : Option (Transaction AllOps)). OnStaging does within old new o (Some u) made) (sym some) (u, refl, done)

-- what a call within says, in other words
pub said_as : {M A E : Type 0} {disk : M → Disk} {old new : Store M} {t u : Transaction AllOps} {ops : Params → List AllOps → List AllOps} {first second : Params → List AllOps → Type 0} {fault : E} {error : Option ExecErr} {result : Result A E}
    → ((p : Params) (commands : List AllOps) → first p commands → second p commands) → IsCallWithin disk old new t u ops first fault error result → IsCallWithin disk old new t u ops second fault error result
said_as {t = t} so call = record { time = call.time; reads = call.reads; stages = call.stages; says = λ p commands holds staged. so p (commands ++ t.ops.items) (call.says p commands holds staged); broken = call.broken }

-- one that says two things says the first
pub less_told : {M A E : Type 0} {disk : M → Disk} {old new : Store M} {t u : Transaction AllOps} {ops : Params → List AllOps → List AllOps} {first second : Params → List AllOps → Type 0} {fault : E} {error : Option ExecErr} {result : Result A E}
    → IsCallWithin disk old new t u ops (λ p commands. first p commands × second p commands) fault error result → IsCallWithin disk old new t u ops first fault error result
less_told call = said_as (λ p commands both. both.0) call

-- a result that is seen as it is
pub seen_itself : {A E : Type 0} (r : Result A E) → seen_as (λ (found : A). found) r ≡ r
seen_itself (Ok found) = refl
seen_itself (Err cause) = refl

-- what a plan found, as a call tells it
pub told_so : {V A R : Type 0} (see : V → A) (answer : Result A R) (r : Result V (CallErr R)) → IfOk r (λ v. answer ≡ Ok (see v)) → IfOk r (λ v. told answer ≡ Ok (see v))
told_so see answer (Ok v) is = ap (λ r. told r) is
told_so see answer (Err e) is = tt

-- What the store says of a read whose result is seen in some way.
module _ {V A R : Type 0} (see : V → A) (tells : Params → List AllOps → Result A (CallErr R)) (old new : Store QueueMem) where
  abbrev Finds : Result V (CallErr R) → Params → List AllOps → Type 0
  Finds r p commands = IfOk r (λ v. tells p commands ≡ Ok (see v))

  abbrev Refuses : Result V (CallErr R) → Params → List AllOps → Type 0
  Refuses r p commands = IfErr r (λ e. ending_of (cause_of e) ≡ Done → tells p commands ≡ Err e)

  pub reads_so : (r : Result V (CallErr R)) → (old.engine.broken ≡ false → AreCalls all_meaning (disk_of old.machine) (disk_of new.machine) old.engine new.engine (cause_in r))
      → ((p : Params) (commands : List AllOps) → (holds : Holds all_meaning p (disk_of old.machine) old.engine commands) → AddsFront all_meaning p (disk_of old.machine) (disk_of new.machine) old.engine new.engine holds.world commands [] (ending_of (cause_in r)))
      → ((p : Params) (commands : List AllOps) → Holds all_meaning p (disk_of old.machine) old.engine commands → Finds r p commands) → ((p : Params) (commands : List AllOps) → Holds all_meaning p (disk_of old.machine) old.engine commands → Refuses r p commands)
      → (old.engine.broken ≡ true → IsStillBroken (Exec DiskFault) old new r) → Does (reading tells) old new (seen_as see r)
  reads_so (Ok v) calls adds finds refuses broken = record {
    calls = calls;
    adds = adds;
    answer = λ p commands holds done. sym (finds p commands holds);
    broken = λ is. absurd (never_err (broken is).answer);
  }
  reads_so (Err e) calls adds finds refuses broken = record {
    calls = calls;
    adds = adds;
    answer = λ p commands holds done. sym (refuses p commands holds done);
    broken = λ is. record { answer = error_again V A e (Exec DiskFault) (broken is).answer; same = (broken is).same };
  }

  -- the same within a transaction
  pub reads_within : (t u : Transaction AllOps) (r : Result V (CallErr R)) → IsCallWithin disk_of old new t u stages_none (λ p commands. Finds r p commands × Refuses r p commands) (Exec DiskFault) (cause_in r) r
      → Stages (reading tells) old new t u (seen_as see r)
  reads_within t u (Ok v) call = record {
    time = call.time;
    reads = call.reads;
    stages = call.stages;
    says = λ p commands holds staged done. sym (call.says p commands holds staged).0;
    broken = λ is. absurd (never_err (call.broken is).0.answer);
  }
  reads_within t u (Err e) call = record {
    time = call.time;
    reads = call.reads;
    stages = call.stages;
    says = λ p commands holds staged done. sym ((call.says p commands holds staged).1 done);
    broken = λ is. (record { answer = error_again V A e (Exec DiskFault) (call.broken is).0.answer; same = (call.broken is).0.same }, (call.broken is).1);
  }
