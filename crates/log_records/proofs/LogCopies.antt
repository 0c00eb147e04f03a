-- What a copy of a log will be, and that the target's files hold it once its header gate is open.
use Rattle.std.proofs.Common.{◌≡◌, ◌≢◌, ◌∙◌, ◌+◌, ◌<◌, ◌≤◌, ◌^◌, ℕ, Bor, Option, None, Some, List, [], ◌∷◌, ◌++◌, length, map, refl, sym, ap, subst, arith, inl, inr, length-append}
use Rattle.std.specs.Prelude.{IfSome, option_copied}
use Rattle.std.specs.Option.{option_to_list}
use Rattle.std.proofs.lemmas.List.{append-nil}
use Rattle.std.proofs.lemmas.List.Elements.{All-filter, All-nil, All-push}
use Rattle.disk_model.specs.Disk.{Files, Disk, Any, HoldsAt, In, Runs, Same, Stays}
use Rattle.disk_model.specs.declared.machine.FileNo.{FileNo}
use Rattle.disk_model.specs.declared.machine.FileNo.TheVariants.{Objects, LogA, LogB}
use Rattle.dirty_page_table.specs.declared.table.DirtyPageTable.{DirtyPageTable}
use Rattle.oper_core.specs.Meaning.{Meaning}
use Rattle.oper_core.specs.declared.bounds.Bounds.{Bounds}
use Rattle.formats.specs.InForce.{HasHeader}
use Rattle.formats.specs.Log.{IsClosedLog, IsHeader, IsWholeLog, blocks, new_header}
use Rattle.formats.specs.Records.{commands_of, payload_of, record_code, records_of, AreRecords, IsRecord, IsRecordLog}
use Rattle.formats.specs.declared.record.Record.{Record}
use Rattle.formats.specs.declared.record.Record.TheVariants.{Checkpoint}
use Rattle.log_blocks.specs.Creating.{IsNewLog}
use Rattle.log_blocks.specs.Laws.{has_header}
use Rattle.log_blocks.specs.LogView.{LogView}
use Rattle.log_blocks.specs.RewriteLaws.{opened_whole}
use Rattle.log_blocks.specs.Rewriting.{IsPrepared, second_header}
use Rattle.log_blocks.specs.Writing.{LogWriterView, HasPutLog}
use Rattle.log_records.specs.Codec.{AreShort, IsEncodable}
use Rattle.log_records.specs.CodecLaws.{HasCodes, encodable-from_grammar}
use Rattle.log_records.specs.Copying.{HasCopied}
use Rattle.log_records.specs.Laying.{room_of}
use Rattle.log_records.specs.LogCopy.{HasLast, HoldsCopy, IsCopyPlanned, copied_groups, copied_length, copied_records, empty_checkpoint, or_checkpoint}
use Rattle.log_records.specs.Measured.{IsMeasured}
use Rattle.log_records.specs.Measuring.{block_lengths, has_room}
use Rattle.log_records.specs.RewriteLaws.{blocks_hold}
use Rattle.log_records.specs.RecordReader.{AreAll}
use Rattle.log_records.specs.Rewriting.{code_lengths, in_full_blocks, is_from_lsn, left_out, from_lsn}
use Rattle.log_records.specs.declared.measured.Measured.{Measured}
use Rattle.log_records.specs.declared.new_log.NewLog.{NewLog}
use Rattle.log_records.proofs.Copies.{all_of_groups, put_log}
use Rattle.log_records.proofs.CopyingAll.{all_stays}
use Rattle.log_records.proofs.Laid.{are_payloads, room_bound, room_measured}
use Rattle.log_records.proofs.Measures.{checkpoint_long}
use Rattle.log_records.proofs.FromLsn.{left_below, from_lsn_placed}
use Rattle.log_records.proofs.Replaced.{any_once, any_twice}

a_not_b : LogA ≢ LogB
a_not_b same = cc

a_log : LogB ≢ Objects
a_log same = cc

-- one LSN is all that a list ends with
only_one : (xs : List ℕ) (x y : ℕ) → y ∷ [] ≡ xs ++ x ∷ [] → (xs ≡ []) × (x ≡ y)
only_one [] x y same = let here : x ≡ y = cc in (refl, here)
only_one (z ∷ xs) x y same = absurd (omega (arith, ap length same, length-append xs (x ∷ [])))

module _ {O : Type 0} where
  -- the records of a copy are some
  pub some_or : (base : ℕ) (records : List (Record O)) → 0 < length (or_checkpoint base records)
  some_or base [] = omega arith
  some_or base (r ∷ records) = omega arith

  just_these : (base : ℕ) (records : List (Record O)) → (records ≡ [] → ⊥) → records ++ [] ≡ or_checkpoint base records
  just_these base [] some = absurd (some refl)
  just_these base (r ∷ records) some = append-nil (r ∷ records)

module _ {O : Type 0} (m : Meaning O) (base : ℕ) (records : List (Record O)) (was : Measured) (is : IsMeasured m base records was) where
  abbrev mine : List (Record O)
  mine = from_lsn base records

  -- where there is no record with an LSN, no block was begun
  no_block : mine ≡ [] → (was.full.items ≡ []) × (was.filled ≡ 0)
  no_block none = only_one was.full.items was.filled 0 (ap (λ (l : List (Record O)). block_lengths 0 (code_lengths m l ++ [])) (sym none) ∙ is.blocks [])

  -- where there are some, they are the copy
  pub last_none : 0 < was.filled → HasLast m base records was None
  last_none some = record {
    lengths = sym (is.blocks []) ∙ ap (block_lengths 0) (append-nil (code_lengths m mine)) ∙ ap (λ (l : List (Record O)). block_lengths 0 (code_lengths m l)) (sym (append-nil mine));
    whole = just_these base mine (λ none. omega (arith, some, (no_block none).1));
    grammar = tt;
    short = tt;
  }

  -- where there is none, a checkpoint is
  pub last_some : (now : Measured) (table : DirtyPageTable) → was.filled ≡ 0 → base < 2 ^ 64 → table ≡ empty_checkpoint base → now.full.items ≡ was.full.items → now.filled ≡ 13 → HasLast m base records now (Some (Checkpoint table))
  last_some now table zero low table_is full filled =
      let none = is.none zero in
      let checkpoint : Record O = Checkpoint table in
      let long : length (record_code m checkpoint) ≡ 13 = omega (arith, checkpoint_long m checkpoint table table.starts refl refl, ap (λ (t : DirtyPageTable). length t.starts) table_is) in
      let all : mine ++ checkpoint ∷ [] ≡ checkpoint ∷ [] = ap (λ (l : List (Record O)). l ++ checkpoint ∷ []) none in
      let lengths : block_lengths 0 (length (record_code m checkpoint) ∷ []) ≡ 13 ∷ [] = ap (λ (n : ℕ). block_lengths 0 (n ∷ [])) long ∙ has_room 0 13 [] (omega arith) in
      record {
        lengths = (λ i. (full ∙ (no_block none).0) i ++ filled i ∷ []) ∙ sym lengths ∙ ap (λ (l : List (Record O)). block_lengths 0 (code_lengths m l)) (sym all);
        whole = all ∙ ap (λ (t : DirtyPageTable). Checkpoint t ∷ []) table_is ∙ ap (or_checkpoint base) (sym none);
        grammar = subst (λ (t : DirtyPageTable). IsRecord m (Checkpoint t)) (sym table_is) (record { next = low; few = omega arith; starts = All-nil _ });
        short = omega (arith, long);
      }

module _ {O : Type 0} (m : Meaning O) where
  -- with the last one each goes into a block
  pub short_with : (base : ℕ) (records : List (Record O)) (last : Option (Record O)) → AreShort m records → IfSome last (λ r. length (record_code m r) ≤ 2 ^ 30) → AreShort m (from_lsn base records ++ option_to_list last)
  short_with base records None short one =
      subst (λ (l : List (Record O)). AreShort m l) (sym (append-nil (from_lsn base records))) (All-filter (is_from_lsn base) (λ r. length (record_code m r) ≤ 2 ^ 30) records short)
  short_with base records (Some r) short one =
      All-push (λ r. length (record_code m r) ≤ 2 ^ 30) (from_lsn base records) r (All-filter (is_from_lsn base) (λ r. length (record_code m r) ≤ 2 ^ 30) records short) one

  -- no command of a log stands before its base
  pub none_before : (base : ℕ) (records : List (Record O)) → AreRecords m base base records → length (commands_of (left_out base records)) ≡ 0
  none_before base records are = omega (arith, left_below m base base base records are)

  -- what the copy will be, as it was measured
  module _ (d : Disk) (log : LogView) (records : List (Record O)) (it : Measured) (last : Option (Record O)) (new : NewLog) (all : AreAll m d log records) (has : HasLast m log.header.base records it last) (commands : new.commands ≡ log.header.commands)
      (lengths : new.lengths.items ≡ it.full.items ++ it.filled ∷ []) where
    pub measured_copy : IsCopyPlanned m d log new last
    measured_copy = record {
      planned = record {
        records = records;
        all = all;
        commands = omega (arith, commands, none_before log.header.base records all.placed);
        lengths = lengths ∙ has.lengths;
        short = short_with log.header.base records last all.short has.short;
      };
      whole = has.whole;
      grammar = has.grammar;
    }

    pub measured_fits : length new.lengths.items ≤ 2 ^ 32 → 34 + room_of new.lengths.items < 2 ^ 63
    measured_fits few =
        let kept = from_lsn log.header.base records in
        room_bound m (kept ++ option_to_list last) (omega (arith, ap length has.whole, some_or log.header.base kept)) (short_with log.header.base records last all.short has.short) new.lengths.items (lengths ∙ has.lengths) few

  -- what was planned stays so where no file changes
  pub copy_planned_stays : (old new : Disk) (log : LogView) (it : NewLog) (last : Option (Record O)) → Stays old new → IsCopyPlanned m old log it last → IsCopyPlanned m new log it last
  copy_planned_stays old new log it last kept is = record {
    planned = record {
      records = is.planned.records;
      all = all_stays m old new log is.planned.records kept is.planned.all;
      commands = is.planned.commands;
      lengths = is.planned.lengths;
      short = is.planned.short;
    };
    whole = is.whole;
    grammar = is.grammar;
  }

  module _ (d : Disk) (log : LogView) (it : NewLog) (last : Option (Record O)) (is : IsCopyPlanned m d log it last) where
    -- its records are some
    pub some_planned : 0 < length (from_lsn log.header.base is.planned.records ++ option_to_list last)
    some_planned = omega (arith, ap length is.whole, some_or log.header.base (from_lsn log.header.base is.planned.records))

    -- where its file has a log of these groups, its records are theirs
    module _ (codes : HasCodes m) (groups : List (List (Record O))) (agree : d.agrees d.reads) (holds : IsRecordLog m log.header groups (d.reads log.active)) where
      planned_same : is.planned.records ≡ records_of groups
      planned_same = all_of_groups m codes d log is.planned.records groups d.reads is.planned.all agree holds

      planned_whole : from_lsn log.header.base (records_of groups) ++ option_to_list last ≡ copied_records log.header.base (records_of groups)
      planned_whole = subst (λ (l : List (Record O)). from_lsn log.header.base l ++ option_to_list last ≡ copied_records log.header.base l) planned_same is.whole

      -- and each goes into a block
      pub copy_short : AreShort m (copied_records log.header.base (records_of groups))
      copy_short = subst (λ (l : List (Record O)). AreShort m l) (is.whole ∙ ap (copied_records log.header.base) planned_same) is.planned.short

      -- the copy is put, but for its header gate and the closed gate after it
      pub copy_put : (one two : Disk) (out out' : LogWriterView) → one.tells_files → HasPutLog one out (second_header log.header.base log.header.commands) []
          → HasCopied m d one two log log.header.base (option_to_list last) it.lengths.items out out'
          → HasPutLog two out' (second_header log.header.base log.header.commands) (blocks (map (payload_of m) (copied_groups m log.header.base (records_of groups))))
      copy_put one two out out' told begun copied = subst (λ (l : List (Record O)). HasPutLog two out' (second_header log.header.base log.header.commands) (blocks (map (payload_of m) (in_full_blocks m l)))) planned_whole
          (put_log m codes d one two log log.header.base (option_to_list last) it out out' (second_header log.header.base log.header.commands) groups told agree holds is.planned some_planned begun copied)

    -- its length, where the log has these records
    pub planned_length : (stable : List (Record O)) → is.planned.records ≡ stable → 34 + room_of it.lengths.items ≡ copied_length m log stable
    planned_length stable same =
        let base = log.header.base in
        let room : room_of it.lengths.items ≡ length (blocks (map (payload_of m) (copied_groups m base stable))) =
        ap room_of is.planned.lengths ∙ room_measured m (from_lsn base is.planned.records ++ option_to_list last)
        ∙ ap (λ (l : List (Record O)). length (blocks (map (payload_of m) (in_full_blocks m l)))) (is.whole ∙ ap (copied_records base) same) in
        omega (arith, room)

  -- the copied records stand in their places in a log of this base
  copied_placed : (base : ℕ) (records : List (Record O)) → IsRecord m (Checkpoint (empty_checkpoint base)) → AreRecords m base base records → AreRecords m base base (copied_records base records)
  copied_placed base records grammar are = or_placed (from_lsn base records) (from_lsn_placed m base base base base records are (λ low. refl) (λ high. refl)).0
    where
      or_placed : (kept : List (Record O)) → AreRecords m base base kept → AreRecords m base base (or_checkpoint base kept)
      or_placed [] all = (grammar, record { next_is = refl; rising = λ k less. absurd (omega (arith, less)); there = All-nil _; from_base = All-nil _; before = All-nil _ }, tt)
      or_placed (r ∷ kept) all = all

  -- with the header gate of log B open over what was prepared, the files hold the copy
  pub holds_copy : (log : LogView) (records : List (Record O)) (old mid new : Files) → IsHeader log.header → AreRecords m log.header.base log.header.base records → AreShort m (copied_records log.header.base records) → IsNewLog old → In LogB Any old new
      → IsPrepared (second_header log.header.base log.header.commands) (map (payload_of m) (copied_groups m log.header.base records)) (mid LogB) → In LogB (HoldsAt 0 (1 ∷ [])) mid new → HoldsCopy m log records new
  holds_copy log records old mid new range are short is beside prepared opened =
      let base = log.header.base in
      let header = second_header base log.header.commands in
      let kept = copied_records base records in
      let groups = copied_groups m base records in
      let here : IsHeader header = record { epoch_low = omega arith; epoch_high = omega arith; base_low = range.base_low; base_high = range.base_high; commands = range.commands } in
      let first = has_header new_header [] (old LogA) is.log in
      let low : base < 2 ^ 64 = omega (arith, range.base_high) in
      record {
        in_force = record {
          a_log = a_log;
          other = inr (new_header, subst (HasHeader new_header) (sym (beside.others LogA a_not_b)) first, omega arith);
        };
        log = record {
          log = opened_whole header (map (payload_of m) groups) (mid LogB) (new LogB) here (are_payloads m kept (some_or base (from_lsn base records)) short) prepared opened.changed;
          placed = subst (λ (l : List (Record O)). AreRecords m base base l) (sym (blocks_hold m [] kept)) (copied_placed base records (record { next = low; few = omega arith; starts = All-nil _ }) are);
        };
      }

-- the last record of a copy has a code
pub last_encodable : {O : Type 0} (meaning : Bounds → Meaning O) (b : Bounds) → HasCodes (meaning b) → (last : Option (Bor (Record O))) → IfSome (option_copied last) (IsRecord (meaning b)) → IfSome last (λ r. IsEncodable meaning r.now)
last_encodable meaning b codes None good = tt
last_encodable meaning b codes (Some r) good = encodable-from_grammar meaning b codes r.now good

-- the target's log A is that of a new store still, where log B is closed
pub still_new : (old new : Files) → In LogB Any old new → IsClosedLog (new LogB) → IsNewLog old → IsNewLog new
still_new old new beside closed is = record {
  in_force = record { a_log = is.in_force.a_log; other = inl closed };
  log = subst (λ (f : List ℕ). IsWholeLog new_header [] f) (sym (beside.others LogA a_not_b)) is.log;
}

-- a run that changes log B alone, and two of them
pub one_run : (old new : Disk) (file : FileNo) (change : List ℕ → List ℕ → Type 0) → file ≡ LogB → Runs (In file change) Same old new → Runs (In LogB Any) Same old new
one_run old new file change is run = any_once old new LogB change (subst (λ (f : FileNo). Runs (In f change) Same old new) is run)

pub two_runs : (old mid new : Disk) → Runs (In LogB Any) Same old mid → Runs (In LogB Any) Same mid new → Runs (In LogB Any) Same old new
two_runs old mid new first second = any_twice old mid new LogB first second
