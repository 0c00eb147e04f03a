-- What is read of the files before anything is done again.
use Rattle.std.specs.Prelude.{◌≡◌, ◌<◌, ℕ, false, None, List, []}
use Rattle.disk_model.specs.Disk.{Files, Disk, IsSettled, Rises}
use Rattle.disk_model.specs.declared.machine.FileNo.{FileNo}
use Rattle.disk_model.specs.declared.machine.FileNo.TheVariants.{Objects}
use Rattle.oper_core.specs.Meaning.{Meaning}
use Rattle.oper_core.specs.declared.bounds.Bounds.{Bounds}
use Rattle.formats.specs.Bytes.{IsClosedAt, IsOpenAt}
use Rattle.formats.specs.FirstFault.{IsDamaged}
use Rattle.formats.specs.Objects.{bounds_of, place_in, lsn_at}
use Rattle.formats.specs.Reading.{FailsBy}
use Rattle.formats.specs.Records.{HoldsRecordLog, records_of, next_after}
use Rattle.formats.specs.declared.record.Record.{Record}
use Rattle.log_records.specs.RecordLog.{Keeps}
use Rattle.stable_objects.specs.Reading.{OpensNot}
use Rattle.stable_objects.specs.declared.open_err.OpenErr.{OpenErr}
use Rattle.analysis_pass.specs.Analysis.{PlanView, plan_table, least_start}
use Rattle.dirty_cache.specs.Contents.{held}
use Rattle.running_store.specs.Laid.{IsLaidOn}
use Rattle.running_store.specs.Parts.{Parts, meaning_in}
use Rattle.running_store.specs.StoreView.{StoreView, store_params}

-- the store is not broken, and none of its identity writes is counted yet
pub record IsFresh (it : StoreView) : Type 0 where
  pub unbroken : it.broken ≡ false
  pub uncounted : it.identities ≡ 0

-- On every machine: it is settled, the store is fresh, no object is cached, the graph has no entries, and the log is one of
-- the store.
pub record IsFreshStore (d : Disk) (it : StoreView) : Type 0 where
  pub settled : IsSettled d
  pub fresh : IsFresh it
  pub empty : ((x : ℕ) → held it.parts.volatile.objects.cache x ≡ None) × (it.parts.volatile.entries ≡ [])
  pub bounds : it.parts.log.bounds ≡ bounds_of (store_params it)

-- the plan is by the last checkpoint among all records of a log that begins at this base
pub record IsPlanned {O : Type 0} (base : ℕ) (all : List (Record O)) (plan : PlanView) : Type 0 where
  pub table : plan.table ≡ plan_table base all
  pub start : plan.start ≡ least_start plan.table.next plan.table.starts

-- What is loaded is that of these files: the objects are those of the slots, the log in force holds some records, by which the
-- plan is, and no open slot has the number of a later one.
pub record IsFiled {O : Type 0} (meaning : Bounds → Meaning O) (files : Files) (it : Parts) (plan : PlanView) : Type 0 where
  pub laid : IsLaidOn it.volatile.objects (files Objects)
  pub groups : List (List (Record O))
  pub file : HoldsRecordLog (meaning_in meaning it.volatile.objects.slots.params) it.log.log.active it.log.log.header groups files
  pub planned : IsPlanned it.log.log.header.base (records_of groups) plan
  pub none_late : (x s : ℕ) → x < it.volatile.objects.slots.params.objects → s < 2 → IsOpenAt (place_in (files Objects) x s) (files Objects)
      → lsn_at (place_in (files Objects) x s) (files Objects) < next_after it.log.log.header.base (records_of groups)

-- where the machine reports its files: what is loaded is that of them, and the log keeps its records
pub record IsRead {O : Type 0} (meaning : Bounds → Meaning O) (files : Files) (d : Disk) (it : Parts) (plan : PlanView) : Type 0 where
  pub filed : IsFiled meaning files it plan
  pub keeps : Keeps (meaning_in meaning it.volatile.objects.slots.params) d it.log (records_of filed.groups) []

-- in all files that agree with what was read the objects gate is closed
abbrev pub AreClosed : Disk → Type 0
AreClosed d = (files : Files) → d.agrees files → IsClosedAt 0 (files Objects)

-- they all are damaged here
abbrev pub AreDamaged : {O : Type 0} → (Bounds → Meaning O) → Disk → FileNo → ℕ → Type 0
AreDamaged meaning d file place = (files : Files) → d.agrees files → IsDamaged meaning files file place

-- why files are not loaded, on every machine: they are no store, the disk fails, and counts that, they are damaged, or memory
-- runs out
abbrev pub LoadsNot : {O : Type 0} → (Bounds → Meaning O) → Disk → Disk → OpenErr → Type 0
LoadsNot meaning old new = OpensNot (AreClosed new) (FailsBy (Rises old.disk_faults new.disk_faults) (AreDamaged meaning new))
