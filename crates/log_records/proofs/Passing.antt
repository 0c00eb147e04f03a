-- How a reader of records goes on in a log.
use Rattle.std.proofs.Common.{◌≡◌, ◌<◌, ◌≤◌, ◌+◌, ◌^◌, ℕ, Bool, true, false, Option, None, Some, List, [], ◌∷◌, ◌++◌, length, map, take, drop, refl, sym, ap, ◌∙◌, subst, arith, append_assoc, length-append}
use Rattle.std.proofs.lemmas.List.{append-nil, take_at}
use Rattle.std.proofs.lemmas.List.Elements.{All-nil, All-push}
use Rattle.disk_model.specs.Disk.{Files, Disk, Rises, Stays}
use Rattle.disk_model.specs.Moments.{agreed_before}
use Rattle.disk_model.specs.declared.machine.FileNo.{FileNo}
use Rattle.oper_core.specs.Meaning.{Meaning}
use Rattle.oper_core.specs.declared.bounds.Bounds.{Bounds}
use Rattle.formats.specs.Log.{block, blocks, end_of, IsWholeLog}
use Rattle.formats.specs.Records.{record_code, payload_of, records_of, next_behind, IsPlaced, AreRecords}
use Rattle.formats.specs.declared.record.Record.{Record}
use Rattle.log_blocks.specs.Forcing.{with_block}
use Rattle.log_blocks.specs.Laws.{with_block-some, blocks-push, length-block}
use Rattle.log_blocks.specs.LogView.{LogView}
use Rattle.log_blocks.specs.Payloads.{PayloadReaderView, IsInLog, IsNoLog, HasNext, remaining}
use Rattle.formats.specs.Reading.{FailsBy}
use Rattle.formats.specs.declared.read_err.ReadErr.{ReadErr}
use Rattle.log_blocks.specs.Reading.{fails_on}
use Rattle.log_records.specs.Codec.{StartsWithRecord}
use Rattle.log_records.specs.Loading.{IsTailFault}
use Rattle.log_records.specs.RecordLaws.{with_group, payloads-with_group, records-with_group, AreRecords-push, AreRecords-behind, payload_push, next-append}
use Rattle.log_records.specs.RecordReader.{RecordReaderView, IsReading, HasEnded, HasGoneOn, HasFound, StartsWithNone}
use Rattle.log_records.proofs.LoadLemmas.{rises_before}

module _ {O : Type 0} (m : Meaning O) where
  -- a reader that has read none
  pub reading_none : (d : Disk) (log : LogView) (it : RecordReaderView) → it.payloads.file ≡ log.active → it.base ≡ log.header.base → it.next ≡ log.header.base
      → ((files : Files) → d.agrees files → (payloads : List (List ℕ)) → IsWholeLog log.header payloads (files log.active) → IsInLog (files log.active) it.payloads payloads [] [] payloads) → IsReading m d log it []
  reading_none d log it file base next starts = record {
    file = file;
    base = base;
    placed = tt;
    next_is = next;
    short = All-nil (λ r. length (record_code m r) ≤ 2 ^ 30);
    read = λ files agree payloads whole. record { groups = []; part = []; later = payloads; stands = starts files agree payloads whole; records_are = refl };
  }

  -- where no file changes, it stands where it stood
  pub reading_stays : (old new : Disk) (log : LogView) (it : RecordReaderView) (records : List (Record O)) → Stays old new → IsReading m old log it records → IsReading m new log it records
  reading_stays old new log it records kept is = record {
    file = is.file;
    base = is.base;
    placed = is.placed;
    next_is = is.next_is;
    short = is.short;
    read = λ files agree payloads whole. is.read files (agreed_before kept files agree) payloads whole;
  }

  -- what moves in a payload that is in hand keeps what was read
  pub reading_moved : (d : Disk) (log : LogView) (it : RecordReaderView) (moved : PayloadReaderView) (records : List (Record O)) → IsReading m d log it records → moved.file ≡ it.payloads.file
      → ((files : Files) → d.agrees files → (payloads passed : List (List ℕ)) (taken : List ℕ) (later : List (List ℕ)) → IsInLog (files it.payloads.file) it.payloads payloads passed taken later
      → IsInLog (files moved.file) moved payloads passed taken later) → IsReading m d log (record it { payloads = moved }) records
  reading_moved d log it moved records is file moves = record {
    file = file ∙ is.file;
    base = is.base;
    placed = is.placed;
    next_is = is.next_is;
    short = is.short;
    read = λ files agree payloads whole.
        let first = is.read files agree payloads whole in
        let stands = subst (λ (f : FileNo). IsInLog (files f) it.payloads payloads (map (payload_of m) first.groups) (payload_of m first.part) first.later) (sym is.file) first.stands in
        record {
          groups = first.groups;
          part = first.part;
          later = first.later;
          stands = subst (λ (f : FileNo). IsInLog (files f) moved payloads (map (payload_of m) first.groups) (payload_of m first.part) first.later) (file ∙ is.file)
              (moves files agree payloads (map (payload_of m) first.groups) (payload_of m first.part) first.later stands);
          records_are = first.records_are;
        };
  }

  -- after a payload that is through stands the next
  pub reading_next : (d : Disk) (log : LogView) (it : RecordReaderView) (moved : PayloadReaderView) (records : List (Record O)) → IsReading m d log it records → moved.file ≡ it.payloads.file
      → ((files : Files) → d.agrees files → (payloads passed : List (List ℕ)) (taken : List ℕ) (later : List (List ℕ)) → IsInLog (files it.payloads.file) it.payloads payloads passed taken later
      → HasNext (files moved.file) moved payloads (with_block passed taken) later true) → IsReading m d log (record it { payloads = moved }) records
  reading_next d log it moved records is file moves = record {
    file = file ∙ is.file;
    base = is.base;
    placed = is.placed;
    next_is = is.next_is;
    short = is.short;
    read = λ files agree payloads whole.
        let first = is.read files agree payloads whole in
        let groups = map (payload_of m) first.groups in
        let stands = subst (λ (f : FileNo). IsInLog (files f) it.payloads payloads groups (payload_of m first.part) first.later) (sym is.file) first.stands in
        let next = moves files agree payloads groups (payload_of m first.part) first.later stands in
        record {
          groups = with_group first.groups first.part;
          part = [];
          later = next.1;
          stands = subst (λ (f : FileNo). IsInLog (files f) moved payloads (map (payload_of m) (with_group first.groups first.part)) [] next.1) (file ∙ is.file)
              (subst (λ (l : List (List ℕ)). IsInLog (files moved.file) moved payloads l [] next.1) (payloads-with_group m first.groups first.part) next.3);
          records_are = first.records_are ∙ sym (records-with_group m first.groups first.part) ∙ sym (append-nil (records_of (with_group first.groups first.part)));
        };
  }

  -- or these are all records
  pub reading_ends : (d : Disk) (log : LogView) (it : RecordReaderView) (records : List (Record O)) → IsReading m d log it records
      → ((files : Files) → d.agrees files → (payloads passed : List (List ℕ)) (taken : List ℕ) (later : List (List ℕ)) → IsInLog (files it.payloads.file) it.payloads payloads passed taken later → payloads ≡ with_block passed taken)
      → HasEnded m d log it records
  reading_ends d log it records is ends = (
    record {
      placed = is.placed;
      short = is.short;
      read = λ files agree payloads whole.
          let first = is.read files agree payloads whole in
          let groups = map (payload_of m) first.groups in
          let stands = subst (λ (f : FileNo). IsInLog (files f) it.payloads payloads groups (payload_of m first.part) first.later) (sym is.file) first.stands in
          record {
            groups = with_group first.groups first.part;
            payloads_are = ends files agree payloads groups (payload_of m first.part) first.later stands ∙ payloads-with_group m first.groups first.part;
            records_are = first.records_are ∙ sym (records-with_group m first.groups first.part);
          };
    },
    is.next_is,
  )

  -- by what a reader of payloads found
  pub gone_on : (d : Disk) (log : LogView) (it : RecordReaderView) (moved : PayloadReaderView) (records : List (Record O)) (more : Bool) → IsReading m d log it records → moved.file ≡ it.payloads.file
      → ((files : Files) → d.agrees files → (payloads passed : List (List ℕ)) (taken : List ℕ) (later : List (List ℕ)) → IsInLog (files it.payloads.file) it.payloads payloads passed taken later
      → HasNext (files moved.file) moved payloads (with_block passed taken) later more) → HasGoneOn m d log (record it { payloads = moved }) records more
  gone_on d log it moved records true is file moves = reading_next d log it moved records is file moves
  gone_on d log it moved records false is file moves = reading_ends d log it records is moves

  -- one record more is taken off the payload in hand
  pub reading_more : (d : Disk) (log : LogView) (it : RecordReaderView) (moved : PayloadReaderView) (records : List (Record O)) (found : Record O) (n behind : ℕ) → IsReading m d log it records
      → StartsWithRecord m it.payloads.bytes found → IsPlaced m it.base it.next found → n ≡ length (record_code m found) → n ≤ 2 ^ 30 → behind ≡ next_behind it.next found
      → moved.file ≡ it.payloads.file → ((file : List ℕ) (payloads passed : List (List ℕ)) (taken : List ℕ) (later : List (List ℕ)) → IsInLog file it.payloads payloads passed taken later
      → IsInLog file moved payloads passed (taken ++ take n it.payloads.bytes) later) → IsReading m d log (record it { next = behind; payloads = moved }) (records ++ found ∷ [])
  reading_more d log it moved records found n behind is starts place long few after file takes =
      let base = log.header.base in
      let placed = subst (λ (k : ℕ). IsPlaced m base k found) is.next_is (subst (λ (k : ℕ). IsPlaced m k it.next found) is.base place) in
      let code : take n it.payloads.bytes ≡ record_code m found = ap (take n) starts.split ∙ take_at (record_code m found) starts.rest n (sym long) in
      record {
        file = file ∙ is.file;
        base = is.base;
        placed = AreRecords-push m base base records found is.placed starts.in_grammar placed;
        next_is = after ∙ ap (λ (k : ℕ). next_behind k found) is.next_is ∙ sym (next-append m base records (found ∷ []));
        short = All-push (λ r. length (record_code m r) ≤ 2 ^ 30) records found is.short (omega (arith, few, long));
        read = λ files agree payloads whole.
            let first = is.read files agree payloads whole in
            let stands = takes (files log.active) payloads (map (payload_of m) first.groups) (payload_of m first.part) first.later first.stands in
            record {
              groups = first.groups;
              part = first.part ++ found ∷ [];
              later = first.later;
              stands = subst (λ (l : List ℕ). IsInLog (files log.active) moved payloads (map (payload_of m) first.groups) l first.later)
                  (ap (λ (l : List ℕ). payload_of m first.part ++ l) code ∙ sym (payload_push m first.part found)) stands;
              records_are = ap (λ (l : List (Record O)). l ++ found ∷ []) first.records_are ∙ append_assoc (records_of first.groups) first.part (found ∷ []);
            };
      }

  -- where a whole payload is in memory, and no record stands where it should, the log's file is broken there
  pub reading_broken : (d : Disk) (log : LogView) (it : RecordReaderView) (records : List (Record O)) (f : FileNo) (place : ℕ) → IsReading m d log it records
      → it.payloads.left ≡ 0 → 0 < remaining it.payloads → StartsWithNone m it.base it.next it.payloads.bytes → f ≡ it.payloads.file → place + length it.payloads.bytes ≡ it.payloads.place
      → IsTailFault m d log f place
  reading_broken d log it records f place is all some none file here = (
    file ∙ is.file,
    λ files agree payloads whole.
        let first = is.read files agree payloads whole in
        let base = log.header.base in
        let wrong = it.payloads.bytes in
        let before = map (payload_of m) first.groups in
        let ahead : wrong ++ take it.payloads.left (drop it.payloads.place (files log.active)) ≡ wrong =
        ap (λ (k : ℕ). wrong ++ take k (drop it.payloads.place (files log.active))) all ∙ append-nil wrong in
        let bytes = payload_of m first.part ++ wrong in
        let long = length-append (payload_of m first.part) wrong in
        let here_is : with_block before (payload_of m first.part ++ (wrong ++ take it.payloads.left (drop it.payloads.place (files log.active)))) ≡ before ++ bytes ∷ [] =
        ap (λ (l : List ℕ). with_block before (payload_of m first.part ++ l)) ahead ∙ with_block-some before bytes (omega (arith, long, some, all)) in
        let payloads_are : payloads ≡ before ++ bytes ∷ first.later =
        first.stands.payloads_are ∙ ap (λ (l : List (List ℕ)). l ++ first.later) here_is ∙ append_assoc before (bytes ∷ []) first.later in
        record {
          header = log.header;
          groups = first.groups;
          before = first.part;
          wrong = wrong;
          later = first.later;
          log = subst (λ (l : List (List ℕ)). IsWholeLog log.header l (files log.active)) payloads_are whole;
          placed = subst (λ (l : List (Record O)). AreRecords m base base l) first.records_are is.placed;
          some = omega (arith, some, all);
          here = omega (arith, here, all, first.stands.gate, ap end_of here_is, ap length (blocks-push before bytes), length-append (blocks before) (block bytes), length-block bytes, long);
          no_record = λ other rest split are.
              let last = AreRecords-behind m base base records (other ∷ []) (subst (λ (l : List (Record O)). AreRecords m base base (l ++ other ∷ [])) (sym first.records_are) are) in
              none other (record { rest = rest; split = split; in_grammar = last.0 })
              (subst (λ (k : ℕ). IsPlaced m k it.next other) (sym is.base) (subst (λ (k : ℕ). IsPlaced m base k other) (sym is.next_is) last.1));
        },
  )

  -- a reader that stands in a whole log is told of no fault in its blocks
  pub reading_whole : (d : Disk) (log : LogView) (it : RecordReaderView) (records : List (Record O)) (f : FileNo) (place : ℕ) → IsReading m d log it records → IsNoLog d it.payloads f place → IsTailFault m d log f place
  reading_whole d log it records f place is none = (
    none.0 ∙ is.file,
    λ files agree payloads whole.
        let first = is.read files agree payloads whole in
        let groups = map (payload_of m) first.groups in
        let stands = subst (λ (x : FileNo). IsInLog (files x) it.payloads payloads groups (payload_of m first.part) first.later) (sym is.file) first.stands in
        absurd (none.1 files agree payloads groups (payload_of m first.part) first.later stands),
  )

-- What a reader with these bounds has read where the search for its next record brought more bytes into memory.
pub reading_searched : {O : Type 0} (meaning : Bounds → Meaning O) (b own : Bounds) (d e : Disk) (log : LogView) (went it : RecordReaderView) (searched : PayloadReaderView) (records : List (Record O)) → it ≡ went → own ≡ b → Stays d e
    → IsReading (meaning b) d log went records → searched.file ≡ it.payloads.file
    → ((files : Files) → e.agrees files → (payloads passed : List (List ℕ)) (taken : List ℕ) (later : List (List ℕ)) → IsInLog (files it.payloads.file) it.payloads payloads passed taken later
    → IsInLog (files searched.file) searched payloads passed taken later) → IsReading (meaning own) e log (record it { payloads = searched }) records
reading_searched meaning b own d e log went it searched records same bounds kept is file moves =
    let here = reading_stays (meaning own) d e log it records kept
    (subst (λ (v : RecordReaderView). IsReading (meaning own) d log v records) (sym same) (subst (λ (x : Bounds). IsReading (meaning x) d log went records) (sym bounds) is)) in
    reading_moved (meaning own) e log it searched records here file moves

-- a fault that a call of a pass reports
pub fails_before : {O : Type 0} (m : Meaning O) (first mid last : Disk) (log : LogView) (e : ReadErr) → Stays first mid → FailsBy (Rises mid.disk_faults last.disk_faults) (IsTailFault m last log) e
    → FailsBy (Rises first.disk_faults last.disk_faults) (IsTailFault m last log) e
fails_before m first mid last log e kept fails = fails_on _ _ _ _ e (rises_before first mid last kept) (λ f place there. there) fails

-- What the next call of a reader with these bounds gives.
module _ {O : Type 0} (meaning : Bounds → Meaning O) (b : Bounds) (d e : Disk) (log : LogView) (old new : RecordReaderView) (records : List (Record O)) (bounds : old.bounds ≡ b) (reading : IsReading (meaning b) d log old records) where
  own : IsReading (meaning old.bounds) d log old records
  own = subst (λ (x : Bounds). IsReading (meaning x) d log old records) (sym bounds) reading

  -- the search for it was told so
  abbrev pub Finds : Option (Record O) → Type 0
  Finds found = (log : LogView) (records : List (Record O)) → IsReading (meaning old.bounds) d log old records → HasFound (meaning old.bounds) e log new records found

  pub next_found : (found : Option (Record O)) (r : Record O) → found ≡ Some r → Finds found → IsReading (meaning b) e log new (records ++ r ∷ [])
  next_found found r is finds = subst (λ (x : Bounds). IsReading (meaning x) e log new (records ++ r ∷ [])) bounds
      (subst (λ (o : Option (Record O)). HasFound (meaning old.bounds) e log new records o) is (finds log records own))

  pub next_ended : (found : Option (Record O)) → found ≡ None → Finds found → HasEnded (meaning b) e log new records
  next_ended found is finds = subst (λ (x : Bounds). HasEnded (meaning x) e log new records) bounds
      (subst (λ (o : Option (Record O)). HasFound (meaning old.bounds) e log new records o) is (finds log records own))

  pub next_fails : (first : Disk) (cause : ReadErr) → Stays first d
      → ((log : LogView) (records : List (Record O)) → IsReading (meaning old.bounds) d log old records → FailsBy (Rises d.disk_faults e.disk_faults) (IsTailFault (meaning old.bounds) e log) cause)
      → FailsBy (Rises first.disk_faults e.disk_faults) (IsTailFault (meaning b) e log) cause
  next_fails first cause kept fails = fails_before (meaning b) first d e log cause kept
      (subst (λ (x : Bounds). FailsBy (Rises d.disk_faults e.disk_faults) (IsTailFault (meaning x) e log) cause) bounds (fails log records own))
