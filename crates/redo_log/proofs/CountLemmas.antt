-- The loops that count the records of a log go on.
use Rattle.std.proofs.Common.{◌≡◌, ◌<◌, ◌≤◌, ◌+◌, ◌++◌, ◌∙◌, ◌&&◌, ℕ, zero, suc, Bool, true, false, List, [], ◌∷◌, None, Some, Result, ap, append_assoc, arith, drop, length, length-append, map, refl, subst, sym, take, inl, inr}
use Rattle.std.specs.Prelude.{All, IsOk, OnOk}
use Rattle.std.proofs.lemmas.Bool.{cond-false, le-leb, lt-leb}
use Rattle.std.proofs.lemmas.List.{append-nil, map-append, take_at}
use Rattle.std.proofs.lemmas.List.Concat.{flat_map-append}
use Rattle.std.proofs.lemmas.List.Elements.{All-append, All-cons, All-nil}
use Rattle.disk_model.specs.Disk.{Disk, Files, IsDisk, SaysFront, Stays}
use Rattle.disk_model.specs.Moments.{stays_here, stays_twice}
use Rattle.disk_model.specs.declared.machine.FileNo.{FileNo}
use Rattle.oper_core.specs.Meaning.{Meaning}
use Rattle.oper_core.specs.declared.bounds.Bounds.{Bounds}
use Rattle.op_codec.specs.AllOps.{AllOps, all_meaning}
use Rattle.formats.specs.InForce.{HoldsLog}
use Rattle.formats.specs.Log.{Header, end_of}
use Rattle.formats.specs.Records.{HoldsRecordLog, IsRecord, payload_of, record_code, records_of}
use Rattle.formats.specs.declared.record.Record.{Record}
use Rattle.log_blocks.specs.Forcing.{with_block}
use Rattle.log_blocks.specs.Laws.{with_block-some}
use Rattle.log_blocks.specs.Payloads.{HasNext, IsInLog, PayloadReaderView, ahead, remaining}
use Rattle.log_records.specs.Codec.{StartsWithRecord}
use Rattle.redo_log.specs.Choosing.{admits, is_about, is_from, is_of_kind, is_to, number_of}
use Rattle.redo_log.specs.Fronts.{AreLinesToNone, IsDamage}
use Rattle.redo_log.specs.Lines.{blocks_lines, line, record_line, record_lines, record_words}
use Rattle.redo_log.specs.Listing.{ArePlaced, meaning_of}
use Rattle.redo_log.specs.Tallying.{CountsBlock, CountsBlocks, CountsLog, CountsRecord, HasTally, IsTable, IsTally, SaysTallyPart, Tallies, nothing, table}
use Rattle.redo_log.specs.Tallying.IsTallyReport.{no_store, of_damage}
use Rattle.redo_log.specs.Unreadable.{AreUnreadable}
use Rattle.tool_output.specs.Faults.{StopsBy}
use Rattle.tool_output.specs.Found.{HasStore, IsLogStopped, IsStopped}
use Rattle.tool_output.specs.FrontLaws.{front_at, said_none}
use Rattle.tool_output.specs.Lines.{damaged, not_a_store, stop_line}
use Rattle.tool_output.specs.Saying.{says_nothing}
use Rattle.tool_output.specs.declared.stop.Stop.{Stop}
use Rattle.tool_output.specs.declared.stop.Stop.TheVariants as stops
use Rattle.redo_log.proofs.ListLemmas.{on_ok}
use Rattle.redo_log.proofs.ReadLemmas.{ArePartSaid, AreBlocksSaid, IsSayingBlock, IsSayingBlocks, rest_between, taken_off}
use Rattle.redo_log.proofs.Steps.{found_next}
use Rattle.redo_log.specs.declared.choice.Choice.{Choice}

-- no line is said of a record
no_number : (m : Meaning AllOps) (r : Record AllOps) (n : ℕ) → (is_from (Some 1) n && is_to (Some 0) n && is_about m None r && is_of_kind None r) ≡ false
no_number m r zero = refl
no_number m r (suc n) =
    ap (λ (b : Bool). b && is_to (Some 0) (suc n) && is_about m None r && is_of_kind None r) (le-leb 1 (suc n) (omega arith))
    ∙ ap (λ (b : Bool). b && is_about m None r && is_of_kind None r) (lt-leb (suc n) 0 (omega arith))

silent : (m : Meaning AllOps) (file : FileNo) (place count : ℕ) (r : Record AllOps) → record_line nothing m file place count r ≡ []
silent m file place count r = cond-false (admits nothing m r) (line file place count (record_words r)) [] (no_number m r (number_of r))

-- nor of records, nor of blocks
silent_records : (m : Meaning AllOps) (file : FileNo) (place : ℕ) (records : List (Record AllOps)) → record_lines nothing m file place records ≡ []
silent_records m file place [] = refl
silent_records m file place (r ∷ records) = ap (λ (l : List ℕ). l ++ record_lines nothing m file (place + length (record_code m r)) records) (silent m file place (length (record_code m r)) r) ∙ silent_records m file (place + length (record_code m r)) records

silent_blocks : (m : Meaning AllOps) (file : FileNo) (place : ℕ) (groups : List (List (Record AllOps))) → blocks_lines nothing m file place groups ≡ []
silent_blocks m file place [] = refl
silent_blocks m file place (group ∷ groups) = ap (λ (l : List ℕ). l ++ blocks_lines nothing m file (place + (5 + length (payload_of m group))) groups) (silent_records m file (place + 5) group) ∙ silent_blocks m file (place + (5 + length (payload_of m group))) groups

-- so nothing was said
as_silent : (text before after : List ℕ) → text ≡ [] → after ≡ before → after ≡ before ++ text
as_silent text before after none same = same ∙ sym (append-nil before) ∙ ap (λ (l : List ℕ). before ++ l) (sym none)

-- a record was found, taken and counted
pub counts_record : (w : Choice) (m : Meaning AllOps) (first mid : Disk) (old searched moved : PayloadReaderView) (all passed : List (List ℕ)) (taken : List ℕ) (later : List (List ℕ)) (r : Record AllOps) (n : ℕ) (tally more : List (ℕ × ℕ))
    → first.tells_files → Stays first mid → searched.file ≡ old.file → remaining searched ≡ remaining old → StartsWithRecord m searched.bytes r → n ≡ length (record_code m r)
    → IsInLog (first.reads searched.file) searched all passed taken later
    → ((file : List ℕ) (payloads passed : List (List ℕ)) (taken : List ℕ) (later : List (List ℕ)) → IsInLog file searched payloads passed taken later → IsInLog file moved payloads passed (taken ++ take n searched.bytes) later)
    → moved ≡ record searched { bytes = drop n searched.bytes } → Tallies w m (r ∷ []) tally more
    → CountsRecord w m (first.reads old.file) old moved all passed taken later first.said mid.said tally more
counts_record w m first mid old searched moved all passed taken later r n tally more told kept same count starts long stands takes took counted =
    let file = first.reads old.file in
    let code : take n searched.bytes ≡ record_code m r = ap (take n) starts.split ∙ take_at (record_code m r) starts.rest n (sym long) in
    let stood : IsInLog file searched all passed taken later = subst (λ (f : FileNo). IsInLog (first.reads f) searched all passed taken later) same stands in
    record {
      read = record {
        it = r;
        in_grammar = starts.in_grammar;
        stands = subst (λ (l : List ℕ). IsInLog file moved all passed (taken ++ l) later) code (takes file all passed taken later stood);
        count = taken_off m searched moved r n starts long took ∙ count;
        said = as_silent (record_line nothing m old.file (end_of passed + 5 + length taken) (length (record_code m r)) r) first.said mid.said (silent m old.file (end_of passed + 5 + length taken) (length (record_code m r)) r) (kept.said told);
      };
      counted = counted;
    }

-- of a block these records were counted
pub record ArePartCounted (w : Choice) (m : Meaning AllOps) (file : List ℕ) (old it : PayloadReaderView) (all passed later : List (List ℕ)) (before now : List ℕ) (tally more : List (ℕ × ℕ)) : Type 0 where
  pub read : ArePartSaid nothing m file old it all passed later before now
  pub counted : Tallies w m read.part tally more

-- how far a block was counted
pub record IsCountingBlock (w : Choice) (m : Meaning AllOps) (first now : Disk) (old it : PayloadReaderView) (tally more : List (ℕ × ℕ)) : Type 0 where
  pub kept : Stays first now
  pub file : it.file ≡ old.file
  pub less : ahead it ≤ ahead old
  pub counted : first.tells_files → (all passed later : List (List ℕ)) → IsInLog (first.reads old.file) old all passed [] later → 0 < remaining old
      → ArePartCounted w m (first.reads old.file) old it all passed later first.said now.said tally more

-- it is read as by a listing that says nothing
pub block_reading : (w : Choice) (m : Meaning AllOps) (first now : Disk) (old it : PayloadReaderView) (tally more : List (ℕ × ℕ)) → IsCountingBlock w m first now old it tally more → IsSayingBlock nothing m first now old it
block_reading w m first now old it tally more is = record {
  run = says_nothing is.kept;
  file = is.file;
  less = is.less;
  said = λ told all passed later stands some. (is.counted told all passed later stands some).read;
}

-- no record more
tallies_same : (w : Choice) (m : Meaning AllOps) (tally : List (ℕ × ℕ)) → Tallies w m [] tally tally
tallies_same w m tally records is = subst (λ (l : List (Record AllOps)). IsTally w m l tally) (sym (append-nil records)) is

-- some more, and then others
tallies_then : (w : Choice) (m : Meaning AllOps) (some others : List (Record AllOps)) (tally more most : List (ℕ × ℕ)) → Tallies w m some tally more → Tallies w m others more most → Tallies w m (some ++ others) tally most
tallies_then w m some others tally more most first second records is =
    subst (λ (l : List (Record AllOps)). IsTally w m l most) (append_assoc records some others) (second (records ++ some) (first records is))

pub block_uncounted : (w : Choice) (m : Meaning AllOps) (first : Disk) (old : PayloadReaderView) (tally : List (ℕ × ℕ)) → IsDisk first → IsCountingBlock w m first first old old tally tally
block_uncounted w m first old tally lawful = record {
  kept = stays_here first lawful;
  file = refl;
  less = omega arith;
  counted = λ told all passed later stands some. record {
    read = record { part = []; in_grammar = All-nil (IsRecord m); stands = stands; count = omega arith; said = sym (append-nil first.said) };
    counted = tallies_same w m tally;
  };
}

pub block_counts_on : (w : Choice) (m : Meaning AllOps) (first now new : Disk) (old it next : PayloadReaderView) (tally more most : List (ℕ × ℕ)) → IsCountingBlock w m first now old it tally more → Stays now new → next.file ≡ it.file → ahead next ≤ ahead it → 0 < remaining it
    → (now.tells_files → (all passed : List (List ℕ)) (taken : List ℕ) (later : List (List ℕ)) → IsInLog (now.reads it.file) it all passed taken later → 0 < remaining it → CountsRecord w m (now.reads it.file) it next all passed taken later now.said new.said more most)
    → IsCountingBlock w m first new old next tally most
block_counts_on w m first now new old it next tally more most is kept same less some step = record {
  kept = stays_twice first now new is.kept kept;
  file = same ∙ is.file;
  less = omega (arith, less, is.less);
  counted = λ told all passed later stands left.
      let so_far = is.counted told all passed later stands left in
      let part = so_far.read in
      let taken = payload_of m part.part in
      let at : now.reads it.file ≡ first.reads old.file = λ i. is.kept.reads told i (is.file i) in
      let here : IsInLog (now.reads it.file) it all passed taken later = subst (λ (f : List ℕ). IsInLog f it all passed taken later) (sym at) part.stands in
      let one = subst (λ (f : List ℕ). CountsRecord w m f it next all passed taken later now.said new.said more most) at (step (is.kept.time.files_told.0 told) all passed taken later here some) in
      let r = one.read.it in
      let code = record_code m r in
      let payload : payload_of m (part.part ++ r ∷ []) ≡ taken ++ code = flat_map-append (record_code m) part.part (r ∷ []) ∙ ap (λ (l : List ℕ). taken ++ l) (append-nil code) in
      record {
        read = record {
          part = part.part ++ r ∷ [];
          in_grammar = All-append (IsRecord m) part.part (r ∷ []) part.in_grammar (All-cons (IsRecord m) r [] one.read.in_grammar (All-nil (IsRecord m)));
          stands = subst (λ (l : List ℕ). IsInLog (first.reads old.file) next all passed l later) (sym payload) one.read.stands;
          count = omega (arith, part.count, one.read.count, ap length payload, length-append taken code);
          said = as_silent (record_lines nothing m old.file (end_of passed + 5) (part.part ++ r ∷ [])) first.said new.said (silent_records m old.file (end_of passed + 5) (part.part ++ r ∷ [])) ((stays_twice first now new is.kept kept).said told);
        };
        counted = tallies_then w m part.part (r ∷ []) tally more most so_far.counted one.counted;
      };
}

-- where nothing is left, the block was counted
pub block_counted : (w : Choice) (m : Meaning AllOps) (file : List ℕ) (old it : PayloadReaderView) (all passed later : List (List ℕ)) (before now : List ℕ) (tally more : List (ℕ × ℕ)) → ArePartCounted w m file old it all passed later before now tally more → remaining it ≡ 0
    → CountsBlock w m file old it all passed later before now tally more
block_counted w m file old it all passed later before now tally more is none =
    let part = is.read in
    record { read = record { group = part.part; in_grammar = part.in_grammar; stands = part.stands; count = omega (arith, part.count, none); said = part.said }; counted = is.counted }

-- the records of these blocks were counted
pub record AreBlocksCounted (w : Choice) (m : Meaning AllOps) (file : List ℕ) (old it : PayloadReaderView) (all : List (List ℕ)) (before now : List ℕ) (tally more : List (ℕ × ℕ)) : Type 0 where
  pub read : AreBlocksSaid nothing m file old it all before now
  pub counted : Tallies w m (records_of read.groups) tally more

-- how far the blocks were counted
pub record IsCountingBlocks (w : Choice) (m : Meaning AllOps) (first now : Disk) (old it : PayloadReaderView) (tally more : List (ℕ × ℕ)) : Type 0 where
  pub kept : Stays first now
  pub file : it.file ≡ old.file
  pub through : remaining it ≡ 0
  pub counted : first.tells_files → (all : List (List ℕ)) → IsInLog (first.reads old.file) old all [] [] all → AreBlocksCounted w m (first.reads old.file) old it all first.said now.said tally more

pub blocks_reading : (w : Choice) (m : Meaning AllOps) (first now : Disk) (old it : PayloadReaderView) (tally more : List (ℕ × ℕ)) → IsCountingBlocks w m first now old it tally more → IsSayingBlocks nothing m first now old it
blocks_reading w m first now old it tally more is = record { run = says_nothing is.kept; file = is.file; through = is.through; said = λ told all stands. (is.counted told all stands).read }

pub no_block_counted : (w : Choice) (m : Meaning AllOps) (first : Disk) (old : PayloadReaderView) (tally : List (ℕ × ℕ)) → IsDisk first → remaining old ≡ 0 → IsCountingBlocks w m first first old old tally tally
no_block_counted w m first old tally lawful none = record {
  kept = stays_here first lawful;
  file = refl;
  through = none;
  counted = λ told all stands. record {
    read = record { groups = []; later = all; in_grammar = All-nil (IsRecord m); stands = stands; said = sym (append-nil first.said) };
    counted = tallies_same w m tally;
  };
}

pub blocks_count_on : (w : Choice) (m : Meaning AllOps) (first now mid new : Disk) (old it next last : PayloadReaderView) (tally more most : List (ℕ × ℕ)) → IsCountingBlocks w m first now old it tally more → Stays now mid → next.file ≡ it.file → 0 < remaining next
    → ((files : Files) → mid.agrees files → (payloads passed : List (List ℕ)) (taken : List ℕ) (later : List (List ℕ)) → IsInLog (files it.file) it payloads passed taken later → HasNext (files next.file) next payloads (with_block passed taken) later true)
    → Stays mid new → last.file ≡ next.file → remaining last ≡ 0
    → (mid.tells_files → (all passed later : List (List ℕ)) → IsInLog (mid.reads next.file) next all passed [] later → 0 < remaining next → CountsBlock w m (mid.reads next.file) next last all passed later mid.said new.said more most)
    → IsCountingBlocks w m first new old last tally most
blocks_count_on w m first now mid new old it next last tally more most is kept same some step after same_last none counts = record {
  kept = stays_twice first mid new (stays_twice first now mid is.kept kept) after;
  file = same_last ∙ same ∙ is.file;
  through = none;
  counted = λ told all stands.
      let so_far = is.counted told all stands in
      let read = so_far.read in
      let passed = map (payload_of m) read.groups in
      let told_now = is.kept.time.files_told.0 told in
      let found = found_next nothing m first now mid old it next true (blocks_reading w m first now old it tally more is) kept step told all read in
      let reads : mid.reads ≡ first.reads = kept.reads told_now ∙ is.kept.reads told in
      let at : mid.reads next.file ≡ first.reads old.file = λ i. reads i ((same ∙ is.file) i) in
      let here : IsInLog (mid.reads next.file) next all passed [] found.1 = subst (λ (f : Files). IsInLog (f next.file) next all passed [] found.1) (sym reads) found.3 in
      let one = subst (λ (f : List ℕ). CountsBlock w m f next last all passed found.1 mid.said new.said more most) at (counts (kept.time.files_told.0 told_now) all passed found.1 here some) in
      let g = one.read.group in
      let grown : records_of read.groups ++ g ≡ records_of (read.groups ++ g ∷ []) =
      ap (λ (l : List (Record AllOps)). records_of read.groups ++ l) (sym (append-nil g)) ∙ sym (flat_map-append (λ (group : List (Record AllOps)). group) read.groups (g ∷ [])) in
      let whole : with_block passed (payload_of m g) ≡ map (payload_of m) (read.groups ++ g ∷ []) =
      with_block-some passed (payload_of m g) (omega (arith, some, one.read.count)) ∙ sym (map-append (payload_of m) read.groups (g ∷ [])) in
      record {
        read = record {
          groups = read.groups ++ g ∷ [];
          later = found.1;
          in_grammar = subst (λ (l : List (Record AllOps)). All (IsRecord m) l) grown (All-append (IsRecord m) (records_of read.groups) g read.in_grammar one.read.in_grammar);
          stands = subst (λ (l : List (List ℕ)). IsInLog (first.reads old.file) last all l [] found.1) whole (rest_between (first.reads old.file) last all passed (payload_of m g) found.1 one.read.stands none);
          said = as_silent (blocks_lines nothing m old.file 33 (read.groups ++ g ∷ [])) first.said new.said (silent_blocks m old.file 33 (read.groups ++ g ∷ [])) ((stays_twice first mid new (stays_twice first now mid is.kept kept) after).said told);
        };
        counted = subst (λ (l : List (Record AllOps)). Tallies w m l tally most) grown (tallies_then w m (records_of read.groups) g tally more most so_far.counted one.counted);
      };
}

-- behind the last block
pub blocks_counted : (w : Choice) (m : Meaning AllOps) (first now mid : Disk) (old it next : PayloadReaderView) (tally more : List (ℕ × ℕ)) → IsCountingBlocks w m first now old it tally more → Stays now mid
    → ((files : Files) → mid.agrees files → (payloads passed : List (List ℕ)) (taken : List ℕ) (later : List (List ℕ)) → IsInLog (files it.file) it payloads passed taken later → HasNext (files next.file) next payloads (with_block passed taken) later false)
    → first.tells_files → (all : List (List ℕ)) → IsInLog (first.reads old.file) old all [] [] all → CountsBlocks w m old all first.said mid.said tally more
blocks_counted w m first now mid old it next tally more is kept step told all stands =
    let so_far = is.counted told all stands in
    let read = so_far.read in
    record {
      read = record {
        groups = read.groups;
        in_grammar = read.in_grammar;
        all_are = found_next nothing m first now mid old it next false (blocks_reading w m first now old it tally more is) kept step told all read;
        said = as_silent (blocks_lines nothing m old.file 33 read.groups) first.said mid.said (silent_blocks m old.file 33 read.groups) ((stays_twice first now mid is.kept kept).said told);
      };
      counted = so_far.counted;
    }

-- a log was counted
pub log_counted : (w : Choice) (m : Meaning AllOps) (first mid : Disk) (after : List ℕ) (active : FileNo) (payloads : List (List ℕ)) (it : PayloadReaderView) (tally more : List (ℕ × ℕ)) → first.tells_files → Stays first mid → it.file ≡ active
    → IsInLog (first.reads active) it payloads [] [] payloads → (mid.tells_files → (all : List (List ℕ)) → IsInLog (mid.reads it.file) it all [] [] all → CountsBlocks w m it all mid.said after tally more) → CountsLog w m payloads tally more
log_counted w m first mid after active payloads it tally more told kept same stands counts =
    let at : mid.reads it.file ≡ first.reads active = λ i. kept.reads told i (same i) in
    let is = counts (kept.time.files_told.0 told) payloads (subst (λ (f : List ℕ). IsInLog f it payloads [] [] payloads) (sym at) stands) in
    record { groups = is.read.groups; in_grammar = is.read.in_grammar; payloads_are = is.read.all_are; counted = is.counted }

-- or some of its bytes are no record
pub log_unreadable : (m : Meaning AllOps) (first mid : Disk) (after : List ℕ) (active : FileNo) (payloads : List (List ℕ)) (it : PayloadReaderView) → first.tells_files → Stays first mid → it.file ≡ active
    → IsInLog (first.reads active) it payloads [] [] payloads
    → (mid.tells_files → (all : List (List ℕ)) → IsInLog (mid.reads it.file) it all [] [] all → (text : List ℕ) × AreLinesToNone nothing m it.file all text × (after ≡ mid.said ++ text)) → AreUnreadable m payloads
log_unreadable m first mid after active payloads it told kept same stands breaks =
    let at : mid.reads it.file ≡ first.reads active = λ i. kept.reads told i (same i) in
    let none = breaks (kept.time.files_told.0 told) payloads (subst (λ (f : List ℕ). IsInLog f it payloads [] [] payloads) (sym at) stands) in
    (map (payload_of m) none.1.groups, none.1.later, none.1.is)

-- the tally of a log that was counted, and checked
pub tally_made : {T E : Type 0} (w : Choice) (first mid new : Disk) (b : Bounds) (active : FileNo) (header : Header) (payloads : List (List ℕ)) (counted : Result T E) (empty tally : List (ℕ × ℕ)) → first.tells_files → HasStore first.reads b → Stays first mid → Stays mid new
    → HoldsLog active header payloads first.reads → IsTally w (all_meaning b) [] empty → IsOk counted
    → (mid.tells_files → HoldsLog active header payloads mid.reads → OnOk counted (CountsLog w (all_meaning b) payloads empty tally))
    → (new.tells_files → HasStore new.reads b → ArePlaced (all_meaning b) new.reads) → HasTally w first.reads tally
tally_made w first mid new b active header payloads counted empty tally told store kept after holds none all counts placed =
    let m = all_meaning b in
    let files = first.reads in
    let told_mid = kept.time.files_told.0 told in
    let reads_mid : mid.reads ≡ files = kept.reads told in
    let reads_new : new.reads ≡ files = after.reads told_mid ∙ reads_mid in
    let is = on_ok counted _ all (counts told_mid (subst (λ (f : Files). HoldsLog active header payloads f) (sym reads_mid) holds)) in
    let here = subst (λ (f : Files). ArePlaced m f) reads_new (placed (after.time.files_told.0 told_mid) (subst (λ (f : Files). HasStore f b) (sym reads_new) store)) in
    let held = here active header is.groups (subst (λ (l : List (List ℕ)). HoldsLog active header l files) is.payloads_are holds) is.in_grammar in
    record {
      active = active;
      header = header;
      groups = is.groups;
      log = subst (λ (c : Bounds). HoldsRecordLog (all_meaning c) active header is.groups files) store.1 held;
      is = subst (λ (c : Bounds). IsTally w (all_meaning c) (records_of is.groups) tally) store.1 (is.counted [] none);
    }

-- its lines
pub tally_table : (w : Choice) (files : Files) (tally shown : List (ℕ × ℕ)) (text : List ℕ) → HasTally w files tally → shown ≡ tally
    → ((w : Choice) (m : Meaning AllOps) (records : List (Record AllOps)) → IsTally w m records shown → text ≡ table w m records) → IsTable w files text
tally_table w files tally shown text has same lines = record {
  active = has.active;
  header = has.header;
  groups = has.groups;
  log = has.log;
  text_is = lines w (meaning_of files) (records_of has.groups) (subst (λ (l : List (ℕ × ℕ)). IsTally w (meaning_of files) (records_of has.groups) l) (sym same) has.is);
}

-- a tally stopped, and then the last line was said in part
pub stopped_tally : (w : Choice) (files : Files) (before mid after : List ℕ) (stop : Stop) → IsLogStopped files stop → SaysTallyPart w files before mid → (IsDamage stop → mid ≡ before) → SaysFront (stop_line stop) mid after → SaysTallyPart w files before after
stopped_tally w files before mid after stops.NotAStore is part same front = absurd is
stopped_tally w files before mid after (stops.Damaged file place) is part same front = inr (damaged file place, of_damage file place is refl, front_at (damaged file place) (damaged file place) before mid after refl (same tt) front)
stopped_tally w files before mid after stops.DiskFault is part same front = subst (λ (s : List ℕ). SaysTallyPart w files before s) (sym (said_none mid after front)) part
stopped_tally w files before mid after stops.SayFault is part same front = subst (λ (s : List ℕ). SaysTallyPart w files before s) (sym (said_none mid after front)) part
stopped_tally w files before mid after stops.Memory is part same front = subst (λ (s : List ℕ). SaysTallyPart w files before s) (sym (said_none mid after front)) part

-- no store was found, and then it was
pub unopened_tally : (w : Choice) (files : Files) (before mid after : List ℕ) (stop : Stop) → IsStopped files stop → mid ≡ before → SaysFront (stop_line stop) mid after → SaysTallyPart w files before after
unopened_tally w files before mid after stops.NotAStore is same front = inr (not_a_store, no_store is refl, front_at not_a_store not_a_store before mid after refl same front)
unopened_tally w files before mid after (stops.Damaged file place) is same front = inr (damaged file place, of_damage file place is refl, front_at (damaged file place) (damaged file place) before mid after refl same front)
unopened_tally w files before mid after stops.DiskFault is same front = inl (said_none mid after front ∙ same)
unopened_tally w files before mid after stops.SayFault is same front = inl (said_none mid after front ∙ same)
unopened_tally w files before mid after stops.Memory is same front = inl (said_none mid after front ∙ same)

-- saying text finds no damage
pub quiet_stop : (files : Files) (old new : Disk) (stop : Stop) → StopsBy old new (λ file place. ⊥) stop → IsLogStopped files stop
quiet_stop files old new stops.NotAStore is = is
quiet_stop files old new (stops.Damaged file place) is = absurd is
quiet_stop files old new stops.DiskFault is = tt
quiet_stop files old new stops.SayFault is = tt
quiet_stop files old new stops.Memory is = tt

pub silent_stop : (old new : Disk) (stop : Stop) → StopsBy old new (λ file place. ⊥) stop → IsDamage stop → ⊥
silent_stop old new stops.NotAStore is damage = is
silent_stop old new (stops.Damaged file place) is damage = is
silent_stop old new stops.DiskFault is damage = damage
silent_stop old new stops.SayFault is damage = damage
silent_stop old new stops.Memory is damage = damage
