-- What a restart does, and why none may be made.
use Rattle.std.proofs.Common.{◌≡◌, ◌≤◌, ◌+◌, ◌*◌, ℕ, [], List, map, sym, ap, ◌∙◌, subst, arith}
use Rattle.std.specs.Prelude.{codes, true, Option, Result, Ok, Err, IfErr}
use Rattle.analysis_pass.specs.Analysis.{PlanView, least_start, table_or}
use Rattle.disk_model.specs.Disk.{Files}
use Rattle.disk_model.specs.declared.machine.FileNo.{FileNo}
use Rattle.disk_model.specs.declared.machine.FileNo.TheVariants.{Objects}
use Rattle.formats.specs.FirstFault.{IsDamaged}
use Rattle.formats.specs.FirstFault.IsFirstFault.{at_late_slot}
use Rattle.formats.specs.InForce.{HoldsLog}
use Rattle.formats.specs.Log.{Header, end_of}
use Rattle.formats.specs.Objects.{bounds_of}
use Rattle.formats.specs.Records.{HoldsRecordLog, last_checkpoint, next_after, payload_of, records_of}
use Rattle.formats.specs.declared.params.Params.{Params}
use Rattle.formats.specs.declared.record.Record.{Record}
use Rattle.log_blocks.specs.Laws.{one_in_force}
use Rattle.log_blocks.specs.LogView.{LogView, used_of}
use Rattle.log_records.specs.CodecLaws.{HasCodes}
use Rattle.log_records.specs.RecordLog.{IsHeldIn, RecordLogView}
use Rattle.log_records.specs.Uniqueness.{log_of, one_records}
use Rattle.op_codec.specs.AllOps.{all_meaning}
use Rattle.oper_core.specs.Meaning.{Meaning}
use Rattle.oper_core.specs.declared.bounds.Bounds.{Bounds}
use Rattle.dirty_page_table.specs.declared.table.DirtyPageTable.{DirtyPageTable}
use Rattle.stable_objects.specs.Laws.{start_is_open}
use Rattle.stable_objects.specs.SlotLaws.{is_late, late_slot, none_late, place_of_file}
use Rattle.stable_objects.specs.SlotsView.{AreOf, IsLate, SlotsView, place_of}
use Rattle.redo_check.specs.Checking.{EndsLog, HasRecords, IsRestart}
use Rattle.tool_output.specs.Found.{IsLogStopped, IsStopped}
use Rattle.redo_check.specs.Files.{IsLogLine}
use Rattle.redo_check.specs.Files.IsLogLine.{ends as log_ends}
use Rattle.redo_check.specs.Lines.{line}
use Rattle.redo_check.specs.declared.records.Records.{Records}
use Rattle.tool_output.specs.declared.stop.Stop.{Stop}
use Rattle.tool_output.specs.declared.stop.Stop.TheVariants as stops
use Rattle.tool_output.specs.FoundLaws.{has_store, end_used}

-- why the log may not be restarted, no restart may be made
more_stopped : (files : Files) (stop : Stop) → IsLogStopped files stop → IsStopped files stop
more_stopped files stops.NotAStore is = absurd is
more_stopped files (stops.Damaged file place) is = is
more_stopped files stops.DiskFault is = tt
more_stopped files stops.SayFault is = tt
more_stopped files stops.Memory is = tt

pub all_stopped : {T : Type 0} (files : Files) (result : Result T Stop) → IfErr result (IsLogStopped files) → IfErr result (IsStopped files)
all_stopped files (Ok value) is = tt
all_stopped files (Err stop) is = more_stopped files stop is

-- where the log that was loaded ends
pub ends_log : (files : Files) (log : LogView) (active : FileNo) (end : ℕ) (payloads : List (List ℕ)) → HoldsLog log.active log.header payloads files → log.end ≡ end_of payloads → log.pending ≡ [] → active ≡ log.active → end ≡ used_of log
    → EndsLog files active end
ends_log files log active end payloads holds ends none same used =
    (log.header, payloads, subst (λ (f : FileNo). HoldsLog f log.header payloads files) (sym same) holds, used ∙ end_used log (end_of payloads) none ends)

-- a log that was read later from the same files
pub records_found : {O : Type 0} (m : Meaning O) {active : FileNo} {header : Header} {groups : List (List (Record O))} {mid files : Files} → mid ≡ files → HoldsRecordLog m active header groups mid → HoldsRecordLog m active header groups files
records_found m {active = active} {header = header} {groups = groups} same is = subst (λ (f : Files). HoldsRecordLog m active header groups f) same is

-- the counts of a log that was read, and of the plan that its last check makes
pub has_records : {O : Type 0} (m : Meaning O) → HasCodes m → (files : Files) (log : RecordLogView) (groups : List (List (Record O))) (check : Option DirtyPageTable) (plan : PlanView) (file : FileNo) (base begins number end : ℕ)
    → EndsLog files file end → HoldsRecordLog m log.log.active log.log.header groups files → check ≡ last_checkpoint (records_of groups) → IsHeldIn m files log → 1 ≤ log.next
    → base ≡ log.log.header.base → plan.table ≡ table_or base check → plan.start ≡ least_start plan.table.next plan.table.starts → begins ≡ plan.start → number ≡ log.next
    → HasRecords m files (record { file = file; end = end; start = begins; next = number })
has_records m codes files log groups check plan file base begins number end at_end is check_is held some base_is table start begins_is number_is =
    let header = log.log.header in
    let one = one_records m codes log.log.active log.log.active header header groups held.groups files is held.file in
    let in_force = one_in_force file log.log.active at_end.0 header at_end.1 (map (payload_of m) groups) files at_end.2 (log_of m is) in
    let plan_is : plan.table ≡ table_or header.base (last_checkpoint (records_of groups)) = table ∙ λ i. table_or (base_is i) (check_is i) in
    record {
      active = log.log.active;
      header = header;
      groups = groups;
      log = is;
      here = in_force.0;
      end = at_end.3 ∙ ap end_of in_force.2;
      some = omega (arith, number_is, some);
      next = number_is ∙ held.next ∙ ap (λ (rs : List (Record _)). next_after header.base rs) (sym one.2);
      start = begins_is ∙ start ∙ λ i. least_start (plan_is i).next (plan_is i).starts;
    }

-- a slot is ahead of the log
pub late_damaged : (files : Files) (slots : SlotsView) (b : Bounds) (it : Records) (place x s : ℕ) → AreOf slots (files Objects) → b ≡ bounds_of slots.params → HasRecords (all_meaning b) files it
    → IsLate slots it.next x s → place ≡ place_of slots x s + 1 → ((y t : ℕ) → IsLate slots it.next y t → 2 * x + s ≤ 2 * y + t) → IsDamaged all_meaning files Objects place
late_damaged files slots b it place x s are same records late here first =
    let store = has_store files slots b are same in
    let slot = late_slot slots (files Objects) it.next x s are late in
    record {
      gate = start_is_open (files Objects) are.whole.begins;
      fault = at_late_slot place store.0 (record {
        late = record {
          x = x;
          s = s;
          in_range = store.0.in_range;
          slot = slot.0;
          next = it.next;
          next_is = record {
            active = records.active;
            header = records.header;
            groups = records.groups;
            log = subst (λ (c : Bounds). HoldsRecordLog (all_meaning c) records.active records.header records.groups files) store.1 records.log;
            here = records.next;
          };
          late = slot.1;
          here = here ∙ ap (λ (n : ℕ). n + 1) (place_of_file slots (files Objects) x s are);
        };
        first = λ y t open_slot later. first y t (is_late slots (files Objects) it.next y t are open_slot later);
      });
    }

-- the files have no fault
pub is_restart : (files : Files) (slots : SlotsView) (b : Bounds) (it : Records) → AreOf slots (files Objects) → b ≡ bounds_of slots.params → HasRecords (all_meaning b) files it
    → ((x s : ℕ) → IsLate slots it.next x s → ⊥) → IsRestart files (record { bounds = b; records = it })
is_restart files slots b it are same records none = record {
  store = has_store files slots b are same;
  records = records;
  none_late = λ x s slot. none_late slots (files Objects) it.next are records.some none x s (omega (arith, slot.below, ap (λ (q : Params). q.objects) are.whole.params)) slot.two slot.open_gate;
}

-- the line of where it ends
pub line_ends : (files : Files) (active : FileNo) (end : ℕ) (text : List ℕ) → EndsLog files active end → text ≡ line active end (codes "end of the log in force") true → IsLogLine files text
line_ends files active end text is said = log_ends active is.0 is.1 is.2 (said ∙ ap (λ (n : ℕ). line active n (codes "end of the log in force") true) is.3)
