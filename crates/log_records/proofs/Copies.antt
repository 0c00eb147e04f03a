-- How far the records of a log are put into a new one.
use Rattle.std.proofs.Common.{◌≡◌, ◌≢◌, ◌+◌, ◌-◌, ◌<◌, ◌≤◌, ◌↔◌, ℕ, Bool, true, false, IsTrue, List, [], ◌∷◌, ◌++◌, length, map, refl, sym, ap, ◌∙◌, subst, arith, append_assoc, length-append}
use Rattle.std.proofs.lemmas.Bool.{both_ways}
use Rattle.std.proofs.lemmas.List.{append-nil, drop_all, length-drop, map-append}
use Rattle.std.proofs.lemmas.List.Elements.{filter-append}
use Rattle.byteorder.specs.Endian.{little_bytes}
use Rattle.disk_model.specs.Disk.{Files, Disk, In, OthersStay, Rises, Runs, Same, Stays}
use Rattle.disk_model.specs.Moments.{agreed_before}
use Rattle.disk_model.specs.declared.machine.FileNo.{FileNo}
use Rattle.oper_core.specs.Meaning.{Meaning}
use Rattle.formats.specs.Log.{Header, blocks, header_fields, IsWholeLog}
use Rattle.formats.specs.Records.{record_code, payload_of, AreRecords, IsRecordLog, records_of}
use Rattle.formats.specs.Reading.{FailsBy}
use Rattle.formats.specs.declared.record.Record.{Record}
use Rattle.log_blocks.specs.LogView.{LogView}
use Rattle.log_blocks.specs.Rewriting.{IsFront, KeepsClosed}
use Rattle.log_blocks.specs.Writing.{LogWriterView, HasPut, HasPutLog, put_of}
use Rattle.log_records.specs.CodecLaws.{HasCodes}
use Rattle.log_records.specs.Copying.{HasCopied, HasFilled, IsFilled, IsLaid, IsPlanned, PutFails, later_of, read_from_put}
use Rattle.log_records.specs.Laying.{Fits, codes_of, laid, room_of}
use Rattle.log_records.specs.Loading.{IsTailFault}
use Rattle.log_records.specs.Measuring.{block_lengths}
use Rattle.log_records.specs.LsnReaderLaws.{reading_beside}
use Rattle.log_records.specs.RecordReader.{RecordReaderView, AreAll, IsReading}
use Rattle.log_records.specs.Rewriting.{code_lengths, in_full_blocks, is_from_lsn, from_lsn}
use Rattle.log_records.specs.Uniqueness.{first_records, one_grouping}
use Rattle.log_records.specs.declared.blocks_left.BlocksLeft.{BlocksLeft}
use Rattle.log_records.specs.declared.new_log.NewLog.{NewLog}
use Rattle.log_records.specs.declared.put_err.PutErr.{PutErr}
use Rattle.log_records.specs.declared.put_err.PutErr.TheVariants.{DiskFault, Memory}
use Rattle.log_records.proofs.Laid.{are_laid, fits_behind, fits_first, laid_behind, laid_first}

-- what was put is not changed by calls that change no file
put_stays : (old new : Disk) (out : LogWriterView) (front : List ℕ) → Stays old new → old.tells_files → HasPut old out front → HasPut new out front
put_stays old new out front stays told has = record {
  written = has.written;
  front_is = has.front_is;
  place = has.place;
  stands = subst (λ (f : Files). IsFront has.written (f out.file)) (sym (stays.reads told)) has.stands;
}

module _ (old new : Disk) (out out' : LogWriterView) (blocks blocks' : BlocksLeft) (code : List ℕ) where
  -- a code that was put behind those in the block in hand
  pub laid_in_hand : 0 < blocks.left → length code ≤ blocks.left → blocks'.left ≡ blocks.left - length code → later_of blocks' ≡ later_of blocks
      → (old.tells_files → (front : List ℕ) → HasPut old out front → HasPut new out' (front ++ code)) → put_of out' ≡ put_of out + length code → IsLaid old new out out' blocks blocks' (code ∷ [])
  laid_in_hand some within left later put end = record {
    bytes = code;
    put = put;
    laid_are = λ rest. laid_behind blocks.left (later_of blocks) code rest some ∙ (λ i. code ++ laid (sym left i) (sym later i) rest);
    fits = λ rest fits. subst (λ (k : ℕ). Fits k (later_of blocks') rest) (sym left) (subst (λ (l : List ℕ). Fits (blocks.left - length code) l rest) (sym later) (fits_behind blocks.left (later_of blocks) code rest some fits).1);
    end = omega (arith, end, left, within, ap room_of later);
  }

  -- one that begins the next block
  pub laid_in_next : (n : ℕ) (later : List ℕ) (mid : Disk) (begun : LogWriterView) → blocks.left ≡ 0 → later_of blocks ≡ n ∷ later → length code ≤ n → blocks'.left ≡ n - length code → later_of blocks' ≡ later → (old.tells_files → mid.tells_files)
      → (old.tells_files → (front : List ℕ) → HasPut old out front → HasPut mid begun (front ++ 1 ∷ little_bytes 4 n)) → put_of begun ≡ put_of out + 5
      → (mid.tells_files → (front : List ℕ) → HasPut mid begun front → HasPut new out' (front ++ code)) → put_of out' ≡ put_of begun + length code → IsLaid old new out out' blocks blocks' (code ∷ [])
  laid_in_next n later mid begun none next within left rest_is tells first begins put end = record {
    bytes = (1 ∷ little_bytes 4 n) ++ code;
    put = λ told front has. subst (λ (l : List ℕ). HasPut new out' l) (append_assoc front (1 ∷ little_bytes 4 n) code) (put (tells told) (front ++ 1 ∷ little_bytes 4 n) (first told front has));
    laid_are = λ rest. ap (λ (l : List ℕ). laid blocks.left l (code ∷ rest)) next ∙ laid_first blocks.left n later code rest none
        ∙ sym (append_assoc (1 ∷ little_bytes 4 n) code (laid (n - length code) later rest))
        ∙ (λ i. ((1 ∷ little_bytes 4 n) ++ code) ++ laid (sym left i) (sym rest_is i) rest);
    fits = λ rest fits.
        let here = (fits_first blocks.left n later code rest none (subst (λ (l : List ℕ). Fits blocks.left l (code ∷ rest)) next fits)).1 in
        subst (λ (k : ℕ). Fits k (later_of blocks') rest) (sym left) (subst (λ (l : List ℕ). Fits (n - length code) l rest) (sym rest_is) here);
    end = omega (arith, end, begins, left, within, none, ap room_of next, ap room_of rest_is);
  }

-- no code was put
pub laid_none : (old new : Disk) (out : LogWriterView) (blocks : BlocksLeft) → Stays old new → IsLaid old new out out blocks blocks []
laid_none old new out blocks stays = record {
  bytes = [];
  put = λ told front has. subst (λ (l : List ℕ). HasPut new out l) (sym (append-nil front)) (put_stays old new out front stays told has);
  laid_are = λ rest. refl;
  fits = λ rest fits. fits;
  end = refl;
}

pub laid_nothing : (d : Disk) (out : LogWriterView) (blocks : BlocksLeft) → IsLaid d d out out blocks blocks []
laid_nothing d out blocks = record {
  bytes = [];
  put = λ told front has. subst (λ (l : List ℕ). HasPut d out l) (sym (append-nil front)) has;
  laid_are = λ rest. refl;
  fits = λ rest fits. fits;
  end = refl;
}

-- codes, and then others
pub laid_then : (old mid new : Disk) (out one two : LogWriterView) (blocks blocks' blocks'' : BlocksLeft) (codes more : List (List ℕ)) → (old.tells_files → mid.tells_files) → IsLaid old mid out one blocks blocks' codes
    → IsLaid mid new one two blocks' blocks'' more → IsLaid old new out two blocks blocks'' (codes ++ more)
laid_then old mid new out one two blocks blocks' blocks'' codes more tells first second = record {
  bytes = first.bytes ++ second.bytes;
  put = λ told front has. subst (λ (l : List ℕ). HasPut new two l) (append_assoc front first.bytes second.bytes) (second.put (tells told) (front ++ first.bytes) (first.put told front has));
  laid_are = λ rest. ap (laid blocks.left (later_of blocks)) (append_assoc codes more rest) ∙ first.laid_are (more ++ rest) ∙ ap (λ (l : List ℕ). first.bytes ++ l) (second.laid_are rest)
      ∙ sym (append_assoc first.bytes second.bytes (laid blocks''.left (later_of blocks'') rest));
  fits = λ rest fits. second.fits rest (first.fits (more ++ rest) (subst (Fits blocks.left (later_of blocks)) (append_assoc codes more rest) fits));
  end = second.end ∙ first.end;
}

-- codes, and then calls that change no file
pub laid_on : (old mid new : Disk) (out one : LogWriterView) (blocks blocks' : BlocksLeft) (codes : List (List ℕ)) → (old.tells_files → mid.tells_files) → IsLaid old mid out one blocks blocks' codes → Stays mid new → IsLaid old new out one blocks blocks' codes
laid_on old mid new out one blocks blocks' codes tells first stays = record {
  bytes = first.bytes;
  put = λ told front has. put_stays mid new one (front ++ first.bytes) stays (tells told) (first.put told front has);
  laid_are = first.laid_are;
  fits = first.fits;
  end = first.end;
}

-- a fault of a later call is one since an earlier moment
pub rises_since : (old mid new : Disk) → old.disk_faults ≤ mid.disk_faults → Rises mid.disk_faults new.disk_faults → Rises old.disk_faults new.disk_faults
rises_since old mid new less rises small = let later = rises small in omega (arith, later, less)

-- and one of an earlier call is one until a later moment
pub rises_until : (old mid new : Disk) → mid.disk_faults ≤ new.disk_faults → Rises old.disk_faults mid.disk_faults → Rises old.disk_faults new.disk_faults
rises_until old mid new less rises small = let earlier = rises (omega (arith, less, small)) in omega (arith, earlier, less)

-- a record that was not put
pub put_fails : (rises rises' : Type 0) (fault : FileNo → ℕ → Type 0) (e : PutErr) → (rises → rises') → PutFails rises e → FailsBy rises' fault (read_from_put e)
put_fails rises rises' fault DiskFault risen fails = risen fails
put_fails rises rises' fault Memory risen fails = tt

-- a file that may have been another before the run, in which the others stayed
pub beside : {change : List ℕ → List ℕ → Type 0} (old new : Disk) (file : FileNo) → Runs (In file change) Same old new → (now : Files) → new.agrees now → (was : Files) × old.agrees was × OthersStay file was now
beside old new file run now agrees = let was = run.agreed now agrees in (was.0, was.1, was.2.others)

module _ {O : Type 0} (m : Meaning O) where
  -- the records of a log stay its records where another file alone has changed
  pub all_beside : {change : List ℕ → List ℕ → Type 0} (old new : Disk) (file : FileNo) (log : LogView) (records : List (Record O)) → log.active ≢ file → Runs (In file change) Same old new → AreAll m old log records → AreAll m new log records
  all_beside old new file log records apart run all = record {
    placed = all.placed;
    short = all.short;
    read = λ now agree payloads whole.
        let was = beside old new file run now agree in
        all.read was.0 was.1 payloads (subst (λ (f : List ℕ). IsWholeLog log.header payloads f) (was.2 log.active apart) whole);
  }

  pub reading_on : (old new : Disk) (file : FileNo) (log : LogView) (it : RecordReaderView) (records : List (Record O)) → log.active ≢ file → Runs (In file KeepsClosed) Same old new → IsReading m old log it records → IsReading m new log it records
  reading_on old new file log it records apart run is = reading_beside m old new file log it records apart (beside old new file run) is

  -- a fault that was found is one where no file changes after it
  pub fault_still : (old new : Disk) (log : LogView) (file : FileNo) (place : ℕ) → Stays old new → IsTailFault m old log file place → IsTailFault m new log file place
  fault_still old new log file place stays there = (there.0, λ files agree. there.1 files (agreed_before stays files agree))

  -- two passes over a log read the same records
  pub all_same : HasCodes m → (d : Disk) (log : LogView) (records others : List (Record O)) (files : Files) (payloads : List (List ℕ)) → AreAll m d log records → AreAll m d log others → d.agrees files → IsWholeLog log.header payloads (files log.active) → records ≡ others
  all_same codes d log records others files payloads all all' agree whole =
      let base = log.header.base in
      let so = all.read files agree payloads whole in
      let so' = all'.read files agree payloads whole in
      so.records_are
      ∙ one_grouping m codes base base base base so.groups so'.groups (subst (λ (l : List (Record O)). AreRecords m base base l) so.records_are all.placed)
      (subst (λ (l : List (Record O)). AreRecords m base base l) so'.records_are all'.placed) (sym so.payloads_are ∙ so'.payloads_are)
      ∙ sym so'.records_are

  -- what a second pass has read are the first of the records that a pass read
  pub first_of_all : HasCodes m → (d : Disk) (log : LogView) (it : RecordReaderView) (all records : List (Record O)) (files : Files) (payloads : List (List ℕ)) → AreAll m d log all → IsReading m d log it records
      → d.agrees files → IsWholeLog log.header payloads (files log.active) → (more : List (Record O)) × (all ≡ records ++ more)
  first_of_all codes d log it all records files payloads are reading agree whole =
      let base = log.header.base in
      let so = are.read files agree payloads whole in
      let first = reading.read files agree payloads whole in
      let front = first_records m codes base base base base so.groups first.groups first.part _ first.later (subst (λ (l : List (Record O)). AreRecords m base base l) so.records_are are.placed)
      (subst (λ (l : List (Record O)). AreRecords m base base l) first.records_are reading.placed) (sym so.payloads_are ∙ first.stands.payloads_are) in
      (front.more, so.records_are ∙ front.all_are ∙ ap (λ (l : List (Record O)). l ++ front.more) (sym first.records_are))

  -- the codes of records, and of others after them
  pub codes_then : (base : ℕ) (records more : List (Record O)) → codes_of m (from_lsn base (records ++ more)) ≡ codes_of m (from_lsn base records) ++ codes_of m (from_lsn base more)
  codes_then base records more = ap (codes_of m) (filter-append (is_from_lsn base) records more) ∙ map-append _ (from_lsn base records) (from_lsn base more)

  -- a record that has no room where it comes next: the log reads otherwise than when it was measured
  pub no_room : HasCodes m → (old now : Disk) (log : LogView) (it : RecordReaderView) (out out' : LogWriterView) (blocks blocks' : BlocksLeft) (base : ℕ) (all records : List (Record O)) (r : Record O) (last : List (List ℕ)) (before : Disk)
      → AreAll m now log all → IsReading m now log it (records ++ r ∷ []) → IsLaid old before out out' blocks blocks' (codes_of m (from_lsn base records))
      → ((rest : List (List ℕ)) → Fits blocks'.left (later_of blocks') (codes_of m (from_lsn base (r ∷ [])) ++ rest) → ⊥)
      → Fits blocks.left (later_of blocks) (codes_of m (from_lsn base all) ++ last) → (place : ℕ) → IsTailFault m now log log.active place
  no_room codes old now log it out out' blocks blocks' base all records r last before are reading put none fits place = (
    refl,
    λ files agree payloads whole.
        let more = first_of_all codes now log it all (records ++ r ∷ []) files payloads are reading agree whole in
        let one = codes_of m (from_lsn base (r ∷ [])) in
        let rest = codes_of m (from_lsn base more.0) in
        let done = codes_of m (from_lsn base records) in
        let split : codes_of m (from_lsn base all) ++ last ≡ done ++ (one ++ (rest ++ last)) =
        ap (λ (l : List (Record O)). codes_of m (from_lsn base l) ++ last) more.1 ∙ ap (λ (l : List (List ℕ)). l ++ last) (codes_then base (records ++ r ∷ []) more.0)
        ∙ append_assoc (codes_of m (from_lsn base (records ++ r ∷ []))) rest last
        ∙ ap (λ (l : List (List ℕ)). l ++ (rest ++ last)) (codes_then base records (r ∷ [])) ∙ append_assoc done one (rest ++ last) in
        absurd (none (rest ++ last) (put.fits (one ++ (rest ++ last)) (subst (Fits blocks.left (later_of blocks)) split fits))),
  )

  -- the records of a pass are those of a log of records
  pub all_of_groups : HasCodes m → (d : Disk) (log : LogView) (records : List (Record O)) (groups : List (List (Record O))) (files : Files) → AreAll m d log records → d.agrees files → IsRecordLog m log.header groups (files log.active)
      → records ≡ records_of groups
  all_of_groups codes d log records groups files all agree holds =
      let base = log.header.base in
      let so = all.read files agree (map (payload_of m) groups) holds.log in
      so.records_are ∙ one_grouping m codes base base base base so.groups groups (subst (λ (l : List (Record O)). AreRecords m base base l) so.records_are all.placed) holds.placed (sym so.payloads_are)

  -- what was planned stays so where another file alone has changed
  pub planned_beside : {change : List ℕ → List ℕ → Type 0} (old new : Disk) (file : FileNo) (log : LogView) (base : ℕ) (more : List (Record O)) (it : NewLog) → log.active ≢ file → Runs (In file change) Same old new → IsPlanned m old log base more it → IsPlanned m new log base more it
  planned_beside old new file log base more it apart run is = record {
    records = is.records;
    all = all_beside old new file log is.records apart run is.all;
    commands = is.commands;
    lengths = is.lengths;
    short = is.short;
  }

  -- the codes of records, and of some more
  codes_are : (records more : List (Record O)) → codes_of m (records ++ more) ≡ codes_of m records ++ codes_of m more
  codes_are records more = map-append (record_code m) records more

  -- with a checkpoint there are some
  pub some_with : (records : List (Record O)) (r : Record O) → 0 < length (records ++ r ∷ [])
  some_with records r = omega (arith, length-append records (r ∷ []))

  module _ (d : Disk) (log : LogView) (base : ℕ) (more : List (Record O)) (it : NewLog) (is : IsPlanned m d log base more it) (some : 0 < length (from_lsn base is.records ++ more)) where
    abbrev kept : List (Record O)
    kept = from_lsn base is.records

    -- its records have room in its blocks
    pub planned_fits : Fits 0 it.lengths.items (codes_of m kept ++ codes_of m more)
    planned_fits = subst (λ (l : List ℕ). Fits 0 l (codes_of m kept ++ codes_of m more)) (sym is.lengths)
        (subst (Fits 0 (block_lengths 0 (code_lengths m (kept ++ more)))) (codes_are kept more) (are_laid m (kept ++ more) some is.short).fits)

    -- and are laid there as the new log's payloads are
    pub planned_laid : (records : List (Record O)) → is.records ≡ records
        → laid 0 it.lengths.items (codes_of m (from_lsn base records ++ more)) ≡ blocks (map (payload_of m) (in_full_blocks m (from_lsn base records ++ more)))
    planned_laid records same = subst (λ (l : List (Record O)). laid 0 it.lengths.items (codes_of m (from_lsn base l ++ more)) ≡ blocks (map (payload_of m) (in_full_blocks m (from_lsn base l ++ more)))) same
        (ap (λ (l : List ℕ). laid 0 l (codes_of m (kept ++ more))) is.lengths ∙ (are_laid m (kept ++ more) some is.short).laid_are)

  -- all were put, and the blocks are full
  pub has_copied : (d old one new : Disk) (log : LogView) (base : ℕ) (more : List (Record O)) (lengths : List ℕ) (out out' out'' : LogWriterView) (blocks blocks' : BlocksLeft) (records : List (Record O))
      → blocks.left ≡ 0 → later_of blocks ≡ lengths → (old.tells_files → one.tells_files) → AreAll m d log records → IsLaid old one out out' blocks blocks' (codes_of m (from_lsn base records))
      → IsFilled one new out' out'' blocks' (codes_of m more) → HasCopied m d old new log base more lengths out out''
  has_copied d old one new log base more lengths out out' out'' blocks blocks' records none lengths_are tells all first last =
      let kept = from_lsn base records in
      let behind = laid blocks'.left (later_of blocks') (codes_of m more) in
      let bytes : laid 0 lengths (codes_of m (kept ++ more)) ≡ first.bytes ++ behind = (λ i. laid (sym none i) (sym lengths_are i) (codes_are kept more i)) ∙ first.laid_are (codes_of m more) in
      record {
        records = records;
        all = all;
        put = λ told front has. subst (λ (l : List ℕ). HasPut new out'' l) (append_assoc front first.bytes behind ∙ ap (λ (l : List ℕ). front ++ l) (sym bytes))
            (last.put (tells told) (front ++ first.bytes) (first.put told front has));
        end = omega (arith, last.end, first.end, none, ap room_of lengths_are);
      }

  -- the last records have no room, or leave room: the log reads otherwise than when it was measured
  pub not_filled : HasCodes m → (old one now : Disk) (log : LogView) (base : ℕ) (more : List (Record O)) (it : NewLog) (out out' : LogWriterView) (blocks blocks' : BlocksLeft) (records : List (Record O)) (planned : IsPlanned m now log base more it)
      → 0 < length (from_lsn base planned.records ++ more) → blocks.left ≡ 0 → later_of blocks ≡ it.lengths.items → AreAll m now log records → IsLaid old one out out' blocks blocks' (codes_of m (from_lsn base records))
      → (Fits blocks'.left (later_of blocks') (codes_of m more) → ⊥) → (place : ℕ) → IsTailFault m now log log.active place
  not_filled codes old one now log base more it out out' blocks blocks' records planned some none lengths_are all put never place = (
    refl,
    λ files agree payloads whole.
        let same = all_same codes now log planned.records records files payloads planned.all all agree whole in
        absurd (never (put.fits (codes_of m more) (subst (λ (k : ℕ). Fits k (later_of blocks) (codes_of m (from_lsn base records) ++ codes_of m more)) (sym none)
        (subst (λ (l : List ℕ). Fits 0 l (codes_of m (from_lsn base records) ++ codes_of m more)) (sym lengths_are)
        (subst (λ (l : List (Record O)). Fits 0 it.lengths.items (codes_of m (from_lsn base l) ++ codes_of m more)) same (planned_fits now log base more it planned some)))))),
  )

  -- the new log is put, but for its header gate and the closed gate after it
  pub put_log : HasCodes m → (d one two : Disk) (log : LogView) (base : ℕ) (more : List (Record O)) (it : NewLog) (out out' : LogWriterView) (header : Header) (groups : List (List (Record O))) → one.tells_files → d.agrees d.reads
      → IsRecordLog m log.header groups (d.reads log.active) → (planned : IsPlanned m d log base more it) → 0 < length (from_lsn base planned.records ++ more) → HasPutLog one out header [] → HasCopied m d one two log base more it.lengths.items out out'
      → HasPutLog two out' header (blocks (map (payload_of m) (in_full_blocks m (from_lsn base (records_of groups) ++ more))))
  put_log codes d one two log base more it out out' header groups told agree holds planned some begun copied =
      let copied_are = all_of_groups codes d log copied.records groups d.reads copied.all agree holds in
      let planned_are = all_of_groups codes d log planned.records groups d.reads planned.all agree holds in
      let bytes : laid 0 it.lengths.items (codes_of m (from_lsn base copied.records ++ more)) ≡ blocks (map (payload_of m) (in_full_blocks m (from_lsn base (records_of groups) ++ more))) =
      ap (λ (l : List (Record O)). laid 0 it.lengths.items (codes_of m (from_lsn base l ++ more))) copied_are ∙ planned_laid d log base more it planned some (records_of groups) planned_are in
      record {
        gate = begun.gate;
        closed = begun.closed;
        has = subst (λ (l : List ℕ). HasPut two out' l) (λ i. begun.gate ∷ (append-nil (header_fields header) i ++ bytes i)) (copied.put told (begun.gate ∷ (header_fields header ++ [])) begun.has);
      }

-- whether the blocks are full once codes were put
pub filled_or_not : (old new : Disk) (out out' : LogWriterView) (blocks blocks' : BlocksLeft) (codes : List (List ℕ)) (full : Bool) → IsLaid old new out out' blocks blocks' codes
    → (IsTrue full ↔ ((blocks'.left ≡ 0) × (length blocks'.lengths.items ≤ blocks'.next))) → HasFilled old new out out' blocks codes full
filled_or_not old new out out' blocks blocks' codes true put says =
    let ends = says.0 refl in
    let later : later_of blocks' ≡ [] = drop_all blocks'.next blocks'.lengths.items ends.1 in
    let bytes : laid blocks.left (later_of blocks) codes ≡ put.bytes = ap (laid blocks.left (later_of blocks)) (sym (append-nil codes)) ∙ put.laid_are [] ∙ append-nil put.bytes in
    record {
      put = λ told front has. subst (λ (l : List ℕ). HasPut new out' (front ++ l)) (sym bytes) (put.put told front has);
      end = omega (arith, put.end, ends.0, ap room_of later);
    }
filled_or_not old new out out' blocks blocks' codes false put says = λ fits.
    let ends = put.fits [] (subst (Fits blocks.left (later_of blocks)) (sym (append-nil codes)) fits) in
    absurd (both_ways false refl (says.1 (ends.0, omega (arith, ap length ends.1, length-drop blocks'.next blocks'.lengths.items))))

-- codes that have no room do not fill the blocks
pub no_room_for : (blocks : BlocksLeft) (codes : List (List ℕ)) → ((rest : List (List ℕ)) → Fits blocks.left (later_of blocks) (codes ++ rest) → ⊥) → Fits blocks.left (later_of blocks) codes → ⊥
no_room_for blocks codes never fits = never [] (subst (Fits blocks.left (later_of blocks)) (sym (append-nil codes)) fits)
