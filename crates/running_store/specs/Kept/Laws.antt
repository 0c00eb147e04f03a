-- What keeps a log that has some records, and so keeps parts attached.
use Rattle.std.proofs.Common.{◌≡◌, ◌∙◌, sym, subst, ap, ℕ, ◌<◌, List, [], ◌∷◌, ◌++◌}
use Rattle.std.specs.Prelude.{◌^◌}
use Rattle.disk_model.specs.Disk.{Disk, IsSettled, Runs, In, Any, Same}
use Rattle.disk_model.specs.declared.machine.FileNo.TheVariants.{Objects}
use Rattle.oper_core.specs.Meaning.{Meaning}
use Rattle.oper_core.specs.declared.bounds.Bounds.{Bounds}
use Rattle.formats.specs.Objects.{bounds_of}
use Rattle.formats.specs.Records.{IsRecord}
use Rattle.formats.specs.declared.params.Params.{Params}
use Rattle.formats.specs.declared.record.Record.{Record}
use Rattle.log_records.specs.RecordLaws.{keeps_append, keeps_room, keeps_stay}
use Rattle.log_records.specs.RecordLog.{RecordLogView, Keeps}
use Rattle.explain_core.specs.History.{Member}
use Rattle.explain_core.specs.World.{World}
use Rattle.running_store.specs.Steps.Appended.{behind_member, place_of}
use Rattle.running_store.specs.Steps.Forced.{IsForced}
use Rattle.running_store.specs.Kept.{HasLog, IsAttached, KeepsLog}
use Rattle.running_store.specs.Parts.{IsAppended, Parts, Shows, record_of}
use Rattle.running_store.specs.Parts.Stored.{keeps_beside}

-- a force
pub forced_log : {O : Type 0} (meaning : Bounds → Meaning O) (old new : Disk) (log later : RecordLogView) → IsForced log later
    → (old.tells_files → (stable pending : List (Record O)) → Keeps (meaning log.bounds) old log stable pending → Keeps (meaning log.bounds) new later (stable ++ pending) []) → KeepsLog meaning old new log later
forced_log meaning old new log later forced keeps told has = record {
  stable = has.stable ++ has.pending;
  pending = [];
  keeps = subst (λ (b : Bounds). Keeps (meaning b) new later (has.stable ++ has.pending) []) (sym (ap (λ (r : RecordLogView). r.bounds) forced)) (keeps told has.stable has.pending has.keeps);
}

-- more room in the buffer
pub roomed_log : {O : Type 0} (meaning : Bounds → Meaning O) (d : Disk) (log later : RecordLogView) → later ≡ record log { log = record log.log { room = later.log.room } } → KeepsLog meaning d d log later
roomed_log meaning d log later same told has = record {
  stable = has.stable;
  pending = has.pending;
  keeps = subst (λ (b : Bounds). Keeps (meaning b) d later has.stable has.pending) (sym (ap (λ (r : RecordLogView). r.bounds) same)) (keeps_room (meaning log.bounds) d log later has.stable has.pending same has.keeps);
}

module _ {O : Type 0} (m : Meaning O) where
  -- a call that changes no file
  pub stays_log : {says : List ℕ → List ℕ → Type 0} (old new : Disk) (log : RecordLogView) → old.tells_files → Runs Same says old new → HasLog m old log → HasLog m new log
  stays_log old new log told runs has = record { stable = has.stable; pending = has.pending; keeps = keeps_stay m old new log has.stable has.pending told runs has.keeps }

  -- a call on the objects alone
  pub beside_log : (p : Params) (old new : Disk) (log : RecordLogView) → old.tells_files → Runs (In Objects Any) Same old new → IsSettled new → HasLog m old log → HasLog m new log
  beside_log p old new log told runs settled has =
      record { stable = has.stable; pending = has.pending; keeps = keeps_beside m p old new log has.stable has.pending (runs.reads told).others settled has.keeps }

  -- a member is appended
  pub appended_log : (d : Disk) (before after : Parts) (member : Member O) (made : List (List ℕ)) → IsAppended m before after member made → IsRecord m (record_of before.log.next member) → before.log.next < 2 ^ 62
      → HasLog m d before.log → HasLog m d after.log
  appended_log d before after member made it grammar low has =
      let new = record_of before.log.next member in
      record {
        stable = has.stable;
        pending = has.pending ++ new ∷ [];
        keeps = keeps_append m d before.log after.log has.stable has.pending new has.keeps grammar (place_of m before.log.log.header.base before.log.next member low)
            (ap (λ (r : RecordLogView). r.log.active) it.log) (ap (λ (r : RecordLogView). r.log.header) it.log) (ap (λ (r : RecordLogView). r.log.end) it.log)
            (ap (λ (r : RecordLogView). r.log.pending) it.log) (ap (λ (r : RecordLogView). r.next) it.log ∙ sym (behind_member before.log.next before.log.next member))
            (ap (λ (r : RecordLogView). r.accepted) it.log) (ap (λ (r : RecordLogView). r.forced) it.log);
      }

-- parts that show a world are attached
pub shown_attached : {O : Type 0} (meaning : Bounds → Meaning O) (p : Params) (d : Disk) (it : Parts) (w : World O) → Shows (meaning (bounds_of p)) p d it w → IsAttached meaning d it
shown_attached meaning p d it w shows told = (
  shows.store.laid,
  record {
    stable = shows.log.stable;
    pending = shows.log.pending;
    keeps = subst (λ (b : Bounds). Keeps (meaning b) d it.log shows.log.stable shows.log.pending) (sym shows.bounds) shows.log.keeps;
  },
)
