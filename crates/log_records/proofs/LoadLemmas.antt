-- What a loaded log holds, and why a load fails.
use Rattle.std.proofs.Common.{◌≡◌, ℕ, ◌+◌, ◌-◌, ◌^◌, List, [], ◌++◌, length, map, min, refl, sym, ap, ◌∙◌, subst, arith}
use Rattle.std.proofs.lemmas.List.{append-nil}
use Rattle.disk_model.specs.Disk.{Files, Disk, Stays, Rises}
use Rattle.disk_model.specs.Moments.{stays_settled}
use Rattle.disk_model.specs.declared.machine.FileNo.{FileNo}
use Rattle.formats.specs.InForce.{IsInForce, HoldsLog}
use Rattle.oper_core.specs.Meaning.{Meaning}
use Rattle.oper_core.specs.declared.bounds.Bounds.{Bounds}
use Rattle.formats.specs.Log.{Header, end_of, IsWholeLog}
use Rattle.formats.specs.Records.{payload_of, records_of, commands_of, next_after, AreRecords, IsRecordLog, HoldsRecordLog}
use Rattle.formats.specs.Image.{IsRecordFault}
use Rattle.formats.specs.declared.record.Record.{Record}
use Rattle.log_blocks.specs.Laws.{has_header, no_first_log_fault, one_place}
use Rattle.log_records.specs.RecordLog.{RecordLogView, Keeps, IsHeldIn, IsLoaded}
use Rattle.log_records.specs.Loading.{IsLoadFault, IsTailFault, in_blocks, in_record}
use Rattle.log_records.specs.RecordReader.{AreGroups, AreAll}
use Rattle.log_records.specs.CodecLaws.{HasCodes}
use Rattle.log_records.specs.RecordLaws.{lsn_end, next_rises}
use Rattle.log_records.specs.Uniqueness.{log_of, one_grouping, no_record_fault}

-- a fault that was counted since a later moment was counted since an earlier one
pub rises_before : (old mid new : Disk) → Stays old mid → Rises mid.disk_faults new.disk_faults → Rises old.disk_faults new.disk_faults
rises_before old mid new kept risen small = let later = risen small in omega (arith, later, kept.time.disk_faults)

module _ {O : Type 0} (m : Meaning O) where
  -- a whole log of records has no fault
  pub no_load_fault : HasCodes m → (active : FileNo) (header : Header) (groups : List (List (Record O))) (files : Files) (file : FileNo) (place : ℕ) → HoldsRecordLog m active header groups files
      → IsLoadFault m files file place → ⊥
  no_load_fault codes active header groups files f p is (in_blocks file place fault) = no_first_log_fault active header (map (payload_of m) groups) files file place (log_of m is) fault
  no_load_fault codes active header groups files f p is (in_record other k place beside has fault) =
      let same = one_place active other header k (map (payload_of m) groups) files (log_of m is) beside has in
      no_record_fault m codes header groups (files active) place is.log (subst (λ (x : FileNo). IsRecordFault m (files x) place) same fault)

  -- a record of the log in force is wrong
  pub record_fails : (header : Header) (payloads : List (List ℕ)) (files : Files) (active file : FileNo) (place : ℕ) → HoldsLog active header payloads files → file ≡ active → IsRecordFault m (files active) place → IsLoadFault m files file place
  record_fails header payloads files active file place holds same fault =
      subst (λ (f : FileNo). IsLoadFault m files f place) (sym same) (in_record active header place holds.in_force (has_header header payloads (files active) holds.log) fault)

  -- the groups that were read make the file a log of records
  pub groups_log : (header : Header) (payloads : List (List ℕ)) (file : List ℕ) (found : List (Record O)) → IsWholeLog header payloads file → (so : AreGroups m payloads found) → AreRecords m header.base header.base found
      → IsRecordLog m header so.groups file
  groups_log header payloads file found whole so placed = record {
    log = subst (λ (l : List (List ℕ)). IsWholeLog header l file) so.payloads_are whole;
    placed = subst (λ (l : List (Record O)). AreRecords m header.base header.base l) so.records_are placed;
  }

  -- files in which the log in force has the records that a pass has read hold it
  pub is_held : (files : Files) (log : RecordLogView) (ps : List (List ℕ)) (found : List (Record O)) → HoldsLog log.log.active log.log.header ps files → AreGroups m ps found → AreRecords m log.log.header.base log.log.header.base found
      → log.next ≡ next_after log.log.header.base found → IsHeldIn m files log
  is_held files log ps found holds so placed next = record {
    groups = so.groups;
    file = record { in_force = holds.in_force; log = groups_log log.log.header ps (files log.log.active) found holds.log so placed };
    next = next ∙ ap (λ (l : List (Record O)). next_after log.log.header.base l) so.records_are;
  }

  -- a pass over a log that was loaded has read its records
  pub is_loaded : (b : Bounds) (old new : Disk) (log : RecordLogView) (ps : List (List ℕ)) (found : List (Record O)) (count : ℕ) → old.tells_files → Stays old new
      → HoldsLog log.log.active log.log.header ps old.reads → log.log.end ≡ end_of ps → log.log.pending ≡ [] → log.bounds ≡ b
      → AreGroups m ps found → AreRecords m log.log.header.base log.log.header.base found → log.next ≡ next_after log.log.header.base found → count ≡ length (commands_of found)
      → log.accepted ≡ min (log.log.header.commands + count) (2 ^ 64 - 1) → log.forced ≡ log.accepted → (it : IsLoaded m b old new log) × (found ≡ records_of it.groups)
  is_loaded b old new log ps found count told kept holds end none bounds so placed next count_is accepted forced =
      let whole = holds.log in
      let base = log.log.header.base in
      let records = records_of so.groups in
      let file = groups_log log.log.header ps (old.reads log.log.active) found whole so placed in
      let fits = lsn_end m base base found (omega (arith, whole.in_range.base_high)) placed in
      let rises = next_rises m base found in
      let all : found ≡ records ++ [] = so.records_are ∙ sym (append-nil records) in
      let accepted_is : log.accepted ≡ log.log.header.commands + length (commands_of found) = omega (arith, accepted, count_is, fits, rises, whole.in_range.commands) in (
        record {
          groups = so.groups;
          file = record { in_force = holds.in_force; log = file };
          bounds = bounds;
          keeps = λ settled. record {
            settled = λ f. stays_settled old new f kept (settled f);
            in_force = subst (λ (fs : Files). IsInForce log.log.active log.log.header.epoch fs) (sym (kept.reads told)) holds.in_force;
            groups = so.groups;
            file = subst (λ (fs : Files). IsRecordLog m log.log.header so.groups (fs log.log.active)) (sym (kept.reads told)) file;
            stable_are = refl;
            place = end ∙ ap end_of so.payloads_are;
            pending_are = none;
            placed = subst (λ (l : List (Record O)). AreRecords m base base l) all placed;
            next_is = next ∙ ap (λ (l : List (Record O)). next_after base l) all;
            accepted_are = accepted_is ∙ ap (λ (l : List (Record O)). log.log.header.commands + length (commands_of l)) all;
            forced_are = forced ∙ accepted_is ∙ ap (λ (l : List (Record O)). log.log.header.commands + length (commands_of l)) so.records_are;
          };
        },
        so.records_are,
      )

  -- the records that a pass over the log reads are those that it keeps
  pub found_stable : HasCodes m → (old new : Disk) (log : RecordLogView) (stable pending found : List (Record O)) → Keeps m old log stable pending → new.agrees old.reads → AreAll m new log.log found → found ≡ stable
  found_stable codes old new log stable pending found keeps agree all =
      let base = log.log.header.base in
      let so = all.read old.reads agree (map (payload_of m) keeps.groups) keeps.file.log in
      so.records_are
      ∙ one_grouping m codes base base base base so.groups keeps.groups (subst (λ (l : List (Record O)). AreRecords m base base l) so.records_are all.placed) keeps.file.placed (sym so.payloads_are)
      ∙ keeps.stable_are

  -- and none of them is damaged
  pub no_tail_fault : HasCodes m → (old new : Disk) (log : RecordLogView) (stable pending : List (Record O)) → Keeps m old log stable pending → new.agrees old.reads → (file : FileNo) (place : ℕ) → IsTailFault m new log.log file place → ⊥
  no_tail_fault codes old new log stable pending keeps agree file place there =
      no_record_fault m codes log.log.header keeps.groups (old.reads log.log.active) place keeps.file (there.1 old.reads agree (map (payload_of m) keeps.groups) keeps.file.log)
