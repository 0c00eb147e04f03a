-- How calls end that are made of others, and that they keep counts.
use Rattle.std.proofs.Common.{◌≡◌, ◌∙◌, sym, subst, ap, inr, ⊎_elim, refl, arith, ℕ}
use Rattle.std.specs.Prelude.{⊤, Result, Ok, Err, IsErrAnd}
use Rattle.disk_model.specs.Disk.{Disk}
use Rattle.dirty_page_table.specs.declared.table.DirtyPageTable.{DirtyPageTable}
use Rattle.log_records.specs.RecordLog.{RecordLogView}
use Rattle.oper_core.specs.Meaning.{Meaning}
use Rattle.oper_core.specs.declared.bounds.Bounds.{Bounds}
use Rattle.running_store.specs.Calls.{IsCall, IsFailed, IsForce, IsRoomMade, Never, call_as, ending_of_store}
use Rattle.running_store.specs.Calls.Checkpoints.{HasCheckpointed}
use Rattle.running_store.specs.Courses.{Stop}
use Rattle.running_store.specs.Calls.Rewrites.{HasRewritten}
use Rattle.running_store.specs.StoreView.{StoreView}
use Rattle.running_store.specs.Taking.{Ending}
use Rattle.running_store.specs.Taking.Ending.{Done, Stopped, Short, Failed}
use Rattle.running_store.specs.declared.store_err.StoreErr.{StoreErr}
use Rattle.running_store.specs.declared.store_err.StoreErr.TheVariants as of_store
use Rattle.checkpointing.specs.Left.{EndsAs, KeepsCounts, ending_of_checkpoint}
use Rattle.checkpointing.specs.declared.checkpoint_err.CheckpointErr.{CheckpointErr}

-- an error that is handed on ends a checkpoint as it ended the call below
pub checkpoint_ends : {T : Type 0} (r : Result T CheckpointErr) (e : StoreErr) → IsErrAnd r (λ k. EndsAs e k) → ending_of_store {T = Unit {0}} (Err e) ≡ ending_of_checkpoint r
checkpoint_ends (Ok value) e is = absurd is
checkpoint_ends (Err k) e is = sym is

-- no error of a checkpoint says that it was stopped
pub unstopped : (e : StoreErr) (stop : Stop) → ending_of_store {T = Unit {0}} (Err e) ≡ Stopped stop → ⊥
unstopped of_store.DiskFault stop is = cc
unstopped of_store.Memory stop is = cc

-- a call that ended so was not stopped, or for such a reason
abbrev IsStoppedBy : (Stop → Type 0) → Ending → Type 0
IsStoppedBy why Done = ⊤
IsStoppedBy why (Stopped stop) = why stop
IsStoppedBy why Short = ⊤
IsStoppedBy why Failed = ⊤

module _ {O : Type 0} (meaning : Bounds → Meaning O) (old new : Disk) (before after : StoreView) (stops then : RecordLogView → Stop → Type 0) where
  -- a call that is not stopped
  pub call_on : (ending : Ending) → IsCall meaning old new before after 0 Never ending → IsCall meaning old new before after 0 then ending
  call_on ending is = call_as meaning old new before after 0 0 Never then ending refl (λ stop ends none. absurd none) is

  -- where the disk did not fail, a call may end in another way
  pub call_ends : (one other : Ending) → (IsFailed one → ⊥) → (IsFailed other → ⊥) → IsStoppedBy (then after.parts.log) other → IsCall meaning old new before after 0 stops one → IsCall meaning old new before after 0 then other
  call_ends one other first last so is = record {
    quiet = is.quiet;
    layout = is.layout;
    rising = is.rising;
    identities = is.identities;
    settled = ⊎_elim (λ failed. absurd (first failed)) (λ kept. inr kept) is.settled;
    kept = ⊎_elim (λ failed. absurd (first failed)) (λ kept. inr kept) is.kept;
    attached = ⊎_elim (λ failed. absurd (first failed)) (λ kept. inr kept) is.attached;
    stopped = λ stop ends. subst (λ (k : Ending). IsStoppedBy (then after.parts.log) k) ends so;
    broken = (λ set. absurd (first (is.broken.0 set)), λ failed. absurd (last failed));
    fault = λ failed. absurd (last failed);
  }

-- nothing is done
pub counts_none : (it : StoreView) → KeepsCounts it.parts it.parts
counts_none it = record { next = refl; accepted = refl; same = refl }

module _ (before after : StoreView) where
  pub counts_forced : {T E : Type 0} (r : Result T E) → IsForce before after r → KeepsCounts before.parts after.parts
  counts_forced (Ok value) is = record { next = ap (λ (l : RecordLogView). l.next) is.0; accepted = ap (λ (l : RecordLogView). l.accepted) is.0; same = ap (λ (s : StoreView). s.parts.volatile) is.1 }
  counts_forced (Err e) is = record { next = ap (λ (s : StoreView). s.parts.log.next) is; accepted = ap (λ (s : StoreView). s.parts.log.accepted) is; same = ap (λ (s : StoreView). s.parts.volatile) is }

  pub counts_roomed : {T E : Type 0} (r : Result T E) → IsRoomMade before after r → KeepsCounts before.parts after.parts
  counts_roomed (Ok value) is = record {
    next = is.long.next;
    accepted = ⊎_elim (λ same. ap (λ (l : RecordLogView). l.accepted) same) (λ forced. ap (λ (l : RecordLogView). l.accepted) forced) is.log;
    same = ap (λ (s : StoreView). s.parts.volatile) is.same;
  }
  counts_roomed (Err e) is = record { next = ap (λ (s : StoreView). s.parts.log.next) is; accepted = ap (λ (s : StoreView). s.parts.log.accepted) is; same = ap (λ (s : StoreView). s.parts.volatile) is }

  pub counts_checkpointed : {O T E : Type 0} (meaning : Bounds → Meaning O) (table : DirtyPageTable) (r : Result T E) → HasCheckpointed meaning before after table r → KeepsCounts before.parts after.parts
  counts_checkpointed meaning table (Ok value) is = record {
    next = ap (λ (l : RecordLogView). l.next) is.log;
    accepted = omega (arith, ap (λ (l : RecordLogView). l.accepted) is.log);
    same = ap (λ (s : StoreView). s.parts.volatile) is.same;
  }
  counts_checkpointed meaning table (Err e) is = record { next = ap (λ p. p.log.next) is.roomed; accepted = ap (λ p. p.log.accepted) is.roomed; same = ap (λ p. p.volatile) is.roomed }

  pub counts_rewritten : {T E : Type 0} (base : ℕ) (r : Result T E) → HasRewritten before after base r → KeepsCounts before.parts after.parts
  counts_rewritten base (Ok value) is = record { next = is.next; accepted = is.accepted; same = ap (λ (s : StoreView). s.parts.volatile) is.same }
  counts_rewritten base (Err e) is = record { next = ap (λ (s : StoreView). s.parts.log.next) is; accepted = ap (λ (s : StoreView). s.parts.log.accepted) is; same = ap (λ (s : StoreView). s.parts.volatile) is }

pub counts_twice : (a b c : StoreView) → KeepsCounts a.parts b.parts → KeepsCounts b.parts c.parts → KeepsCounts a.parts c.parts
counts_twice a b c first second = record { next = second.next ∙ first.next; accepted = second.accepted ∙ first.accepted; same = second.same ∙ first.same }
