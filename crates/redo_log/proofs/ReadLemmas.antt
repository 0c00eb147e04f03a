-- A reader goes on through a log, and what it takes is said.
use Rattle.std.proofs.Common.{◌≡◌, ◌<◌, ◌≤◌, ◌+◌, ℕ, List, [], ◌∷◌, ◌++◌, length, map, take, drop, refl, sym, ap, ◌∙◌, subst, arith, append_assoc, length-append, length-drop}
use Rattle.std.specs.Prelude.{All, codes}
use Rattle.std.proofs.lemmas.List.{append-nil, map-append, take_at}
use Rattle.std.proofs.lemmas.List.Concat.{flat_map-append}
use Rattle.std.proofs.lemmas.List.Elements.{All-nil, All-cons, All-append}
use Rattle.disk_model.specs.Disk.{Disk, read_of}
use Rattle.disk_model.specs.Padded.{length-read_of}
use Rattle.disk_model.specs.declared.machine.FileNo.{FileNo}
use Rattle.oper_core.specs.Meaning.{Meaning}
use Rattle.op_codec.specs.AllOps.{AllOps}
use Rattle.formats.specs.Log.{block, blocks, end_of}
use Rattle.formats.specs.Records.{IsRecord, payload_of, record_code, records_of}
use Rattle.formats.specs.declared.record.Record.{Record}
use Rattle.formats.specs.declared.record.Record.TheVariants.{Command, Identity, Checkpoint}
use Rattle.log_blocks.specs.Forcing.{with_block}
use Rattle.log_blocks.specs.Laws.{blocks-push, length-block, with_block-some}
use Rattle.log_blocks.specs.Payloads.{PayloadReaderView, IsInLog, ahead, remaining, untaken}
use Rattle.log_records.specs.Codec.{StartsWithRecord}
use Rattle.redo_log.specs.Lines.{block_lines, blocks_lines, frame_line, line, record_line, record_lines}
use Rattle.redo_log.specs.Reading.{SaysBlock, SaysRecord}
use Rattle.tool_output.specs.Saying.{OnlySays}
use Rattle.redo_log.proofs.LineLemmas.{blocks_more, records_more}
use Rattle.redo_log.specs.declared.choice.Choice.{Choice}

-- how many bytes were not taken
pub untaken_long : (file : List ℕ) (it : PayloadReaderView) (all passed : List (List ℕ)) (taken : List ℕ) (later : List (List ℕ)) → IsInLog file it all passed taken later → length (untaken file it) ≡ remaining it
untaken_long file it all passed taken later is = omega (arith, length-append it.bytes (read_of file it.place it.left), length-read_of file it.place it.left (omega (arith, is.within)))

-- the place of the first byte that was not taken
pub place_is : (file : List ℕ) (it : PayloadReaderView) (all passed : List (List ℕ)) (taken : List ℕ) (later : List (List ℕ)) (place : ℕ) → IsInLog file it all passed taken later → 0 < remaining it
    → place + length it.bytes ≡ it.place → place ≡ end_of passed + 5 + length taken
place_is file it all passed taken later place is some here =
    let rest = untaken file it in
    let payload = taken ++ rest in
    let long = untaken_long file it all passed taken later is in
    let payload_long = length-append taken rest in
    let one : with_block passed payload ≡ passed ++ payload ∷ [] = with_block-some passed payload (omega (arith, some, long, payload_long)) in
    omega (arith, here, is.gate, ap end_of one, ap length (blocks-push passed payload), length-append (blocks passed) (block payload), length-block payload, long, payload_long)

-- a code has a byte
pub code_some : (m : Meaning AllOps) (r : Record AllOps) → 0 < length (record_code m r)
code_some m (Command lsn op) = omega arith
code_some m (Identity lsn x value) = omega arith
code_some m (Checkpoint table) = omega arith

-- the code is within the bytes that it begins
pub code_within : (m : Meaning AllOps) (bytes : List ℕ) (r : Record AllOps) (n : ℕ) → StartsWithRecord m bytes r → n ≡ length (record_code m r) → n ≤ length bytes
code_within m bytes r n starts long = omega (arith, long, ap length starts.split, length-append (record_code m r) starts.rest)

-- how many bytes are left behind those that were taken
pub taken_off : (m : Meaning AllOps) (searched moved : PayloadReaderView) (r : Record AllOps) (n : ℕ) → StartsWithRecord m searched.bytes r → n ≡ length (record_code m r)
    → moved ≡ record searched { bytes = drop n searched.bytes } → remaining moved + length (record_code m r) ≡ remaining searched
taken_off m searched moved r n starts long took =
    omega (arith, ap remaining took, length-drop n searched.bytes, code_within m searched.bytes r n starts long, long)

pub ahead_off : (m : Meaning AllOps) (searched moved : PayloadReaderView) (r : Record AllOps) (n : ℕ) → StartsWithRecord m searched.bytes r → n ≡ length (record_code m r)
    → moved ≡ record searched { bytes = drop n searched.bytes } → ahead moved + length (record_code m r) ≡ ahead searched
ahead_off m searched moved r n starts long took =
    omega (arith, ap ahead took, length-drop n searched.bytes, code_within m searched.bytes r n starts long, long)

-- the record that was found was said and taken
pub record_said : (w : Choice) (m : Meaning AllOps) (file : List ℕ) (old searched moved : PayloadReaderView) (all passed : List (List ℕ)) (taken : List ℕ) (later : List (List ℕ)) (r : Record AllOps) (f : FileNo) (n place : ℕ) (before after : List ℕ)
    → StartsWithRecord m searched.bytes r → n ≡ length (record_code m r) → remaining searched ≡ remaining old → f ≡ old.file → 0 < remaining old
    → IsInLog file searched all passed taken later → IsInLog file moved all passed (taken ++ take n searched.bytes) later
    → moved ≡ record searched { bytes = drop n searched.bytes } → place + length searched.bytes ≡ searched.place
    → after ≡ before ++ record_line w m f place n r → SaysRecord w m file old moved all passed taken later before after
record_said w m file old searched moved all passed taken later r f n place before after starts long same is_file some stood stands took here said =
    let code : take n searched.bytes ≡ record_code m r = ap (take n) starts.split ∙ take_at (record_code m r) starts.rest n (sym long) in
    let at = place_is file searched all passed taken later place stood (omega (arith, some, same)) here in
    record {
      it = r;
      in_grammar = starts.in_grammar;
      stands = subst (λ (l : List ℕ). IsInLog file moved all passed (taken ++ l) later) code stands;
      count = taken_off m searched moved r n starts long took ∙ same;
      said = said ∙ λ i. before ++ record_line w m (is_file i) (at i) (long i) r;
    }

-- of a block these records were said, behind the block's own line
pub record ArePartSaid (w : Choice) (m : Meaning AllOps) (file : List ℕ) (old it : PayloadReaderView) (all passed later : List (List ℕ)) (before now : List ℕ) : Type 0 where
  pub part : List (Record AllOps)
  pub in_grammar : All (IsRecord m) part
  pub stands : IsInLog file it all passed (payload_of m part) later
  pub count : remaining it + length (payload_of m part) ≡ remaining old
  pub said : now ≡ before ++ (frame_line w old.file (end_of passed) (remaining old) (codes "block") ++ record_lines w m old.file (end_of passed + 5) part)

-- how far a block was said
pub record IsSayingBlock (w : Choice) (m : Meaning AllOps) (first now : Disk) (old it : PayloadReaderView) : Type 0 where
  pub run : OnlySays first now
  pub file : it.file ≡ old.file
  pub less : ahead it ≤ ahead old
  pub said : first.tells_files → (all passed later : List (List ℕ)) → IsInLog (first.reads old.file) old all passed [] later → 0 < remaining old
      → ArePartSaid w m (first.reads old.file) old it all passed later first.said now.said

-- one record more of a block
pub part_more : (w : Choice) (m : Meaning AllOps) (file : List ℕ) (old it new : PayloadReaderView) (all passed later : List (List ℕ)) (before now after : List ℕ) → it.file ≡ old.file
    → (is : ArePartSaid w m file old it all passed later before now) → SaysRecord w m file it new all passed (payload_of m is.part) later now after → ArePartSaid w m file old new all passed later before after
part_more w m file old it new all passed later before now after same is next =
    let part = is.part in
    let r = next.it in
    let code = record_code m r in
    let payload : payload_of m (part ++ r ∷ []) ≡ payload_of m part ++ code = flat_map-append (record_code m) part (r ∷ []) ∙ ap (λ (l : List ℕ). payload_of m part ++ l) (append-nil code) in
    let head = frame_line w old.file (end_of passed) (remaining old) (codes "block") in
    let lines = record_lines w m old.file (end_of passed + 5) part in
    let new_line = record_line w m old.file (end_of passed + 5 + length (payload_of m part)) (length code) r in
    record {
      part = part ++ r ∷ [];
      in_grammar = All-append (IsRecord m) part (r ∷ []) is.in_grammar (All-cons (IsRecord m) r [] next.in_grammar (All-nil (IsRecord m)));
      stands = subst (λ (l : List ℕ). IsInLog file new all passed l later) (sym payload) next.stands;
      count = omega (arith, is.count, next.count, ap length payload, length-append (payload_of m part) code);
      said = next.said
          ∙ ap (λ (f : FileNo). now ++ record_line w m f (end_of passed + 5 + length (payload_of m part)) (length code) r) same
          ∙ ap (λ (l : List ℕ). l ++ new_line) is.said
          ∙ append_assoc before (head ++ lines) new_line
          ∙ ap (λ (l : List ℕ). before ++ l) (append_assoc head lines new_line)
          ∙ ap (λ (l : List ℕ). before ++ (head ++ l)) (sym (records_more w m old.file (end_of passed + 5) part r));
    }

-- where nothing is left, the block was said
pub block_said : (w : Choice) (m : Meaning AllOps) (file : List ℕ) (old it : PayloadReaderView) (all passed later : List (List ℕ)) (before now : List ℕ) → ArePartSaid w m file old it all passed later before now → remaining it ≡ 0
    → SaysBlock w m file old it all passed later before now
block_said w m file old it all passed later before now is none =
    let count : length (payload_of m is.part) ≡ remaining old = omega (arith, is.count, none) in
    record {
      group = is.part;
      in_grammar = is.in_grammar;
      stands = is.stands;
      count = count;
      said = is.said ∙ ap (λ (k : ℕ). before ++ (frame_line w old.file (end_of passed) k (codes "block") ++ record_lines w m old.file (end_of passed + 5) is.part)) (sym count);
    }

nil_of : (l : List ℕ) → length l ≡ 0 → l ≡ []
nil_of [] none = refl
nil_of (x ∷ l) none = absurd (omega (arith, none))

-- where nothing is left no byte is
pub nothing_left : (file : List ℕ) (it : PayloadReaderView) → remaining it ≡ 0 → untaken file it ≡ []
nothing_left file it none =
    let bytes : it.bytes ≡ [] = nil_of it.bytes (omega (arith, none)) in
    let left : it.left ≡ 0 = omega (arith, none) in
    λ i. bytes i ++ read_of file it.place (left i)

-- a payload of which nothing is left is passed
pub rest_between : (file : List ℕ) (it : PayloadReaderView) (all passed : List (List ℕ)) (taken : List ℕ) (later : List (List ℕ)) → IsInLog file it all passed taken later → remaining it ≡ 0
    → IsInLog file it all (with_block passed taken) [] later
rest_between file it all passed taken later is none =
    let rest = nothing_left file it none in
    let here : with_block passed (taken ++ untaken file it) ≡ with_block (with_block passed taken) (untaken file it) =
    ap (λ (l : List ℕ). with_block passed (taken ++ l)) rest ∙ ap (with_block passed) (append-nil taken) ∙ sym (ap (with_block (with_block passed taken)) rest) in
    record {
      header = is.header;
      whole = is.whole;
      payloads_are = is.payloads_are ∙ ap (λ (l : List (List ℕ)). l ++ later) here;
      gate = is.gate ∙ ap end_of here;
      within = is.within;
      size = is.size;
    }

-- of a log the blocks of these groups were said
pub record AreBlocksSaid (w : Choice) (m : Meaning AllOps) (file : List ℕ) (old it : PayloadReaderView) (all : List (List ℕ)) (before now : List ℕ) : Type 0 where
  pub groups : List (List (Record AllOps))
  pub later : List (List ℕ)
  pub in_grammar : All (IsRecord m) (records_of groups)
  pub stands : IsInLog file it all (map (payload_of m) groups) [] later
  pub said : now ≡ before ++ blocks_lines w m old.file 33 groups

-- how far the blocks were said
pub record IsSayingBlocks (w : Choice) (m : Meaning AllOps) (first now : Disk) (old it : PayloadReaderView) : Type 0 where
  pub run : OnlySays first now
  pub file : it.file ≡ old.file
  pub through : remaining it ≡ 0
  pub said : first.tells_files → (all : List (List ℕ)) → IsInLog (first.reads old.file) old all [] [] all → AreBlocksSaid w m (first.reads old.file) old it all first.said now.said

-- the reader stands at a next block, and it was said
pub block_more : (w : Choice) (m : Meaning AllOps) (file : List ℕ) (old it new : PayloadReaderView) (all : List (List ℕ)) (groups : List (List (Record AllOps))) (later : List (List ℕ)) (before now after : List ℕ) → it.file ≡ old.file
    → All (IsRecord m) (records_of groups) → now ≡ before ++ blocks_lines w m old.file 33 groups → 0 < remaining it → remaining new ≡ 0
    → SaysBlock w m file it new all (map (payload_of m) groups) later now after → AreBlocksSaid w m file old new all before after
block_more w m file old it new all groups later before now after same grammar said some none next =
    let g = next.group in
    let passed = map (payload_of m) groups in
    let whole : with_block passed (payload_of m g) ≡ map (payload_of m) (groups ++ g ∷ []) =
    with_block-some passed (payload_of m g) (omega (arith, some, next.count)) ∙ sym (map-append (payload_of m) groups (g ∷ [])) in
    let records : records_of (groups ++ g ∷ []) ≡ records_of groups ++ g = flat_map-append (λ (group : List (Record AllOps)). group) groups (g ∷ []) ∙ ap (λ (l : List (Record AllOps)). records_of groups ++ l) (append-nil g) in
    let lines = blocks_lines w m old.file 33 groups in
    let new_lines = block_lines w m old.file (end_of passed) g in
    record {
      groups = groups ++ g ∷ [];
      later = later;
      in_grammar = subst (λ (l : List (Record AllOps)). All (IsRecord m) l) (sym records) (All-append (IsRecord m) (records_of groups) g grammar next.in_grammar);
      stands = subst (λ (l : List (List ℕ)). IsInLog file new all l [] later) whole (rest_between file new all passed (payload_of m g) later next.stands none);
      said = next.said
          ∙ ap (λ (f : FileNo). now ++ block_lines w m f (end_of passed) g) same
          ∙ ap (λ (l : List ℕ). l ++ new_lines) said
          ∙ append_assoc before lines new_lines
          ∙ ap (λ (l : List ℕ). before ++ l) (sym (blocks_more w m old.file 33 groups g));
    }
