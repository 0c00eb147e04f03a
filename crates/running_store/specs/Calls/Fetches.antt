-- What holds on every machine of a call on a store that takes memory and reads slots.
use Rattle.std.proofs.Common.{◌≡◌, ap, sym, subst, true, inr, arith}
use Rattle.std.specs.Prelude.{◌↔◌}
use Rattle.disk_model.specs.Disk.{Disk, Files, Rises}
use Rattle.disk_model.specs.Moments.{runs_wider, stays_settled}
use Rattle.disk_model.specs.declared.machine.FileNo.TheVariants.{Objects}
use Rattle.oper_core.specs.Meaning.{Meaning}
use Rattle.oper_core.specs.declared.bounds.Bounds.{Bounds}
use Rattle.log_records.specs.RecordLog.{RecordLogView}
use Rattle.stable_objects.specs.SlotsView.{layout_of}
use Rattle.running_store.specs.Calls.{IsCall, IsFailed}
use Rattle.running_store.specs.Courses.{Stop}
use Rattle.running_store.specs.Kept.{HasLog, KeepsLog}
use Rattle.running_store.specs.Kept.Laws.{stays_log}
use Rattle.running_store.specs.Laid.{IsLaidOn}
use Rattle.running_store.specs.StoreView.{StoreView}
use Rattle.running_store.specs.Taking.{Ending}
use Rattle.running_store.specs.Taking.Ending.{Stopped}
use Rattle.running_store.specs.Parts.Unchanged.{HasRead}

-- Slots were read, and nothing else was done: the log, the graph and the count of identity writes stay. The store is broken
-- exactly where it is answered that the disk failed.
pub record IsFetch (old new : Disk) (before after : StoreView) (failed : Type 0) : Type 0 where
  pub read : HasRead old new before.parts.volatile.objects after.parts.volatile.objects
  pub log : after.parts.log ≡ before.parts.log
  pub entries : after.parts.volatile.entries ≡ before.parts.volatile.entries
  pub identities : after.identities ≡ before.identities
  pub broken : (after.broken ≡ true) ↔ failed

-- so it is a call in which nothing is logged
pub fetch_call : {O : Type 0} (meaning : Bounds → Meaning O) (old new : Disk) (before after : StoreView) (failed : Type 0) (stops : RecordLogView → Stop → Type 0) (ending : Ending) → IsFetch old new before after failed
    → failed ↔ IsFailed ending → ((stop : Stop) → ending ≡ Stopped stop → stops after.parts.log stop) → (IsFailed ending → Rises old.disk_faults new.disk_faults) → IsCall meaning old new before after 0 stops ending
fetch_call {O} meaning old new before after failed stops ending is so stopped fault = record {
  quiet = runs_wider old new (λ a b. b ≡ a) (λ a b. Unit {0}) (λ a b same. tt) is.read.stays;
  layout = ap layout_of is.read.fetched.slots;
  rising = omega (arith, ap (λ (l : RecordLogView). l.next) is.log);
  identities = omega (arith, is.identities);
  settled = inr (λ settled file. stays_settled old new file is.read.stays (settled file));
  kept = inr keeps;
  attached = inr (λ at told.
      let before_told = is.read.stays.time.files_told.1 told in
      let was = at before_told in
      (subst (λ (f : Files). IsLaidOn after.parts.volatile.objects (f Objects)) (sym (is.read.stays.reads before_told)) (is.read.cells before_told was.0).1, keeps before_told was.1));
  stopped = stopped;
  broken = (λ set. so.0 (is.broken.0 set), λ fails. is.broken.1 (so.1 fails));
  fault = fault;
}
  where
    keeps : KeepsLog meaning old new before.parts.log after.parts.log
    keeps told has = subst (λ (l : RecordLogView). HasLog (meaning l.bounds) new l) (sym is.log) (stays_log (meaning before.parts.log.bounds) old new before.parts.log told is.read.stays has)
