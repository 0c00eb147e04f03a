-- Of a log a part was said.
use Rattle.std.proofs.Common.{◌≡◌, ◌<◌, ◌+◌, ◌++◌, ◌∙◌, ℕ, List, [], ◌∷◌, length, map, ap, append_assoc, arith, length-append, refl, subst, sym, true}
use Rattle.std.specs.Prelude.{codes}
use Rattle.std.proofs.lemmas.List.{append-nil}
use Rattle.std.proofs.lemmas.List.Concat.{flat_map-append}
use Rattle.std.proofs.lemmas.List.Elements.{All-nil, All-cons, All-append}
use Rattle.disk_model.specs.Disk.{Disk, Files, SaysFront, Stays, read_of}
use Rattle.disk_model.specs.declared.machine.FileNo.{FileNo}
use Rattle.oper_core.specs.Meaning.{Meaning}
use Rattle.op_codec.specs.AllOps.{AllOps}
use Rattle.formats.specs.Log.{end_of}
use Rattle.formats.specs.Records.{IsRecord, payload_of, record_code}
use Rattle.formats.specs.declared.record.Record.{Record}
use Rattle.log_blocks.specs.Forcing.{with_block}
use Rattle.log_blocks.specs.Laws.{with_block-some}
use Rattle.log_blocks.specs.Payloads.{HasNext, IsInLog, PayloadReaderView, remaining, untaken}
use Rattle.log_records.specs.Codec.{StartsWithRecord}
use Rattle.redo_log.specs.Fronts.{AreFirstLines, SaysSomeOfBlock, SaysSomeRecords}
use Rattle.redo_log.specs.Fronts.AreFirstLines.{to_block, to_record}
use Rattle.redo_log.specs.Lines.{begun_lines, blocks_lines, frame_line, line, record_line, record_lines}
use Rattle.tool_output.specs.FrontLaws.{all_said, front_at, front_behind, nothing_said}
use Rattle.redo_log.proofs.LineLemmas.{records_append}
use Rattle.redo_log.proofs.ReadLemmas.{AreBlocksSaid, ArePartSaid, IsSayingBlock, IsSayingBlocks, nothing_left, place_is, untaken_long}
use Rattle.redo_log.proofs.Steps.{found_next}
use Rattle.redo_log.specs.declared.choice.Choice.{Choice}

-- no record
pub no_record : (w : Choice) (m : Meaning AllOps) (file : List ℕ) (old : PayloadReaderView) (all passed : List (List ℕ)) (taken : List ℕ) (later : List (List ℕ)) (before after : List ℕ) → IsInLog file old all passed taken later → after ≡ before
    → SaysSomeRecords w m old.file (remaining old) all passed taken later before after
no_record w m file old all passed taken later before after is same = record {
  part = [];
  rest = untaken file old;
  in_grammar = All-nil (IsRecord m);
  here = is.payloads_are;
  long = untaken_long file old all passed taken later is;
  front = nothing_said [] before after same;
}

-- one, or a front of it
pub one_record : (w : Choice) (m : Meaning AllOps) (file : List ℕ) (old searched : PayloadReaderView) (all passed : List (List ℕ)) (taken : List ℕ) (later : List (List ℕ)) (r : Record AllOps) (f : FileNo) (n place : ℕ) (text before mid after : List ℕ)
    → StartsWithRecord m searched.bytes r → n ≡ length (record_code m r) → remaining searched ≡ remaining old → f ≡ old.file → 0 < remaining old
    → IsInLog file searched all passed taken later → place + length searched.bytes ≡ searched.place → text ≡ record_line w m f place n r → mid ≡ before → SaysFront text mid after
    → SaysSomeRecords w m old.file (remaining old) all passed taken later before after
one_record w m file old searched all passed taken later r f n place text before mid after starts long same is_file some stood here text_is kept front =
    let behind = read_of file searched.place searched.left in
    let code = record_code m r in
    let at = place_is file searched all passed taken later place stood (omega (arith, some, same)) here in
    let bytes : payload_of m (r ∷ []) ++ (starts.rest ++ behind) ≡ untaken file searched =
    ap (λ (l : List ℕ). l ++ (starts.rest ++ behind)) (append-nil code) ∙ sym (append_assoc code starts.rest behind) ∙ ap (λ (l : List ℕ). l ++ behind) (sym starts.split) in
    record {
      part = r ∷ [];
      rest = starts.rest ++ behind;
      in_grammar = All-cons (IsRecord m) r [] starts.in_grammar (All-nil (IsRecord m));
      here = stood.payloads_are ∙ ap (λ (l : List ℕ). with_block passed (taken ++ l) ++ later) (sym bytes);
      long = ap length bytes ∙ untaken_long file searched all passed taken later stood ∙ same;
      front = front_at _ text before mid after (text_is ∙ (λ i. record_line w m (is_file i) (at i) (long i) r) ∙ sym (append-nil (record_line w m old.file (end_of passed + 5 + length taken) (length code) r))) kept front;
    }

-- the line of a block, or a front of it
pub head_in_part : (w : Choice) (m : Meaning AllOps) (file : List ℕ) (old : PayloadReaderView) (all passed later : List (List ℕ)) (before after : List ℕ) → IsInLog file old all passed [] later → 0 < remaining old
    → SaysFront (frame_line w old.file (end_of passed) (remaining old) (codes "block")) before after → SaysSomeOfBlock w m old.file all passed later before after
head_in_part w m file old all passed later before after is some front =
    let payload = untaken file old in
    let long = untaken_long file old all passed [] later is in
    record {
      part = [];
      rest = payload;
      in_grammar = All-nil (IsRecord m);
      here = is.payloads_are ∙ ap (λ (l : List (List ℕ)). l ++ later) (with_block-some passed payload (omega (arith, long, some))) ∙ append_assoc passed (payload ∷ []) later;
      front = front_at _ (frame_line w old.file (end_of passed) (remaining old) (codes "block")) before before after ((λ i. frame_line w old.file (end_of passed) (sym long i) (codes "block")) ∙ sym (append-nil (frame_line w old.file (end_of passed) (length payload) (codes "block")))) refl front;
    }

-- records of a block behind others, or a front of them
pub block_in_part : (w : Choice) (m : Meaning AllOps) (file : List ℕ) (old it : PayloadReaderView) (all passed later : List (List ℕ)) (before now after : List ℕ) → it.file ≡ old.file → (is : ArePartSaid w m file old it all passed later before now) → 0 < remaining it
    → SaysSomeRecords w m it.file (remaining it) all passed (payload_of m is.part) later now after → SaysSomeOfBlock w m old.file all passed later before after
block_in_part w m file old it all passed later before now after same is left more =
    let part = is.part in
    let bytes : payload_of m part ++ (payload_of m more.part ++ more.rest) ≡ payload_of m (part ++ more.part) ++ more.rest =
    sym (append_assoc (payload_of m part) (payload_of m more.part) more.rest) ∙ ap (λ (l : List ℕ). l ++ more.rest) (sym (flat_map-append (record_code m) part more.part)) in
    let payload = payload_of m (part ++ more.part) ++ more.rest in
    let long : length payload ≡ remaining old = omega (arith, ap length bytes, length-append (payload_of m part) (payload_of m more.part ++ more.rest), more.long, is.count) in
    let head = frame_line w old.file (end_of passed) (remaining old) (codes "block") in
    let lines = record_lines w m old.file (end_of passed + 5) part in
    let place = end_of passed + 5 + length (payload_of m part) in
    let new_head = frame_line w old.file (end_of passed) (length payload) (codes "block") in
    let text : head ++ lines ++ record_lines w m it.file place more.part ≡ begun_lines w m old.file (end_of passed) payload (part ++ more.part) =
    append_assoc head lines (record_lines w m it.file place more.part)
    ∙ (λ i. frame_line w old.file (end_of passed) (sym long i) (codes "block") ++ (lines ++ record_lines w m (same i) place more.part))
    ∙ ap (λ (l : List ℕ). new_head ++ l) (sym (records_append w m old.file (end_of passed + 5) part more.part)) in
    record {
      part = part ++ more.part;
      rest = more.rest;
      in_grammar = All-append (IsRecord m) part more.part is.in_grammar more.in_grammar;
      here = more.here ∙ ap (λ (l : List ℕ). with_block passed l ++ later) bytes ∙ ap (λ (l : List (List ℕ)). l ++ later) (with_block-some passed payload (omega (arith, long, is.count, left))) ∙ append_assoc passed (payload ∷ []) later;
      front = front_at (begun_lines w m old.file (end_of passed) payload (part ++ more.part)) (head ++ lines ++ record_lines w m it.file place more.part) before before after text refl (front_behind (head ++ lines) (record_lines w m it.file place more.part) before now after is.said more.front);
    }

-- a block stopped behind some of its records
pub block_stops : (w : Choice) (m : Meaning AllOps) (first now : Disk) (after : List ℕ) (old it : PayloadReaderView) → IsSayingBlock w m first now old it → 0 < remaining it
    → (now.tells_files → (all passed : List (List ℕ)) (taken : List ℕ) (later : List (List ℕ)) → IsInLog (now.reads it.file) it all passed taken later → 0 < remaining it → SaysSomeRecords w m it.file (remaining it) all passed taken later now.said after)
    → first.tells_files → (all passed later : List (List ℕ)) → IsInLog (first.reads old.file) old all passed [] later → 0 < remaining old → SaysSomeOfBlock w m old.file all passed later first.said after
block_stops w m first now after old it is some more told all passed later stands left =
    let so_far = is.said told all passed later stands left in
    let taken = payload_of m so_far.part in
    let at : now.reads it.file ≡ first.reads old.file = λ i. is.run.reads told i (is.file i) in
    block_in_part w m (first.reads old.file) old it all passed later first.said now.said after is.file so_far some
    (more (is.run.time.files_told.0 told) all passed taken later (subst (λ (f : List ℕ). IsInLog f it all passed taken later) (sym at) so_far.stands) some)

-- between two blocks, or behind the last
pub blocks_between : (w : Choice) (m : Meaning AllOps) (file : List ℕ) (old it : PayloadReaderView) (all : List (List ℕ)) (before now after : List ℕ) → AreBlocksSaid w m file old it all before now → remaining it ≡ 0 → after ≡ now
    → (text : List ℕ) × AreFirstLines w m old.file all text × SaysFront text before after
blocks_between w m file old it all before now after is none same =
    let groups = is.groups in (
      blocks_lines w m old.file 33 groups,
      to_block groups is.later is.in_grammar (is.stands.payloads_are ∙ ap (λ (l : List ℕ). with_block (map (payload_of m) groups) l ++ is.later) (nothing_left file it none)) refl,
      all_said (blocks_lines w m old.file 33 groups) before after (same ∙ is.said),
    )

-- the blocks stopped within one
pub blocks_stop : (w : Choice) (m : Meaning AllOps) (first now mid : Disk) (after : List ℕ) (old it next : PayloadReaderView) → IsSayingBlocks w m first now old it → Stays now mid → next.file ≡ it.file → 0 < remaining next
    → ((files : Files) → mid.agrees files → (payloads passed : List (List ℕ)) (taken : List ℕ) (later : List (List ℕ)) → IsInLog (files it.file) it payloads passed taken later → HasNext (files next.file) next payloads (with_block passed taken) later true)
    → (mid.tells_files → (all passed later : List (List ℕ)) → IsInLog (mid.reads next.file) next all passed [] later → 0 < remaining next → SaysSomeOfBlock w m next.file all passed later mid.said after)
    → first.tells_files → (all : List (List ℕ)) → IsInLog (first.reads old.file) old all [] [] all → (text : List ℕ) × AreFirstLines w m old.file all text × SaysFront text first.said after
blocks_stop w m first now mid after old it next is kept same some step more told all stands =
    let so_far = is.said told all stands in
    let groups = so_far.groups in
    let passed = map (payload_of m) groups in
    let told_now = is.run.time.files_told.0 told in
    let found = found_next w m first now mid old it next true is kept step told all so_far in
    let reads : mid.reads ≡ first.reads = kept.reads told_now ∙ is.run.reads told in
    let here : IsInLog (mid.reads next.file) next all passed [] found.1 = subst (λ (f : Files). IsInLog (f next.file) next all passed [] found.1) (sym reads) found.3 in
    let part = more (kept.time.files_told.0 told_now) all passed found.1 here some in
    let begun = begun_lines w m old.file (end_of passed) (payload_of m part.part ++ part.rest) part.part in (
      blocks_lines w m old.file 33 groups ++ begun,
      to_record groups part.part part.rest found.1 so_far.in_grammar part.in_grammar part.here refl,
      front_behind (blocks_lines w m old.file 33 groups) begun first.said mid.said after (kept.said told_now ∙ so_far.said)
          (front_at begun (begun_lines w m next.file (end_of passed) (payload_of m part.part ++ part.rest) part.part) mid.said mid.said after (λ i. begun_lines w m ((same ∙ is.file) i) (end_of passed) (payload_of m part.part ++ part.rest) part.part) refl part.front),
    )
