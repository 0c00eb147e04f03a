-- The loops that say a log go on.
use Rattle.std.proofs.Common.{◌≡◌, ◌<◌, ◌≤◌, ◌+◌, ◌-◌, ℕ, zero, suc, Bool, true, false, List, [], ◌++◌, length, map, take, drop, refl, sym, ap, ◌∙◌, subst, arith}
use Rattle.std.specs.Prelude.{codes}
use Rattle.std.proofs.lemmas.List.{append-nil}
use Rattle.std.proofs.lemmas.List.Elements.{All-nil}
use Rattle.disk_model.specs.Disk.{Disk, Files, IsDisk, Stays}
use Rattle.disk_model.specs.Moments.{stays_here}
use Rattle.disk_model.specs.declared.machine.FileNo.{FileNo}
use Rattle.oper_core.specs.Meaning.{Meaning}
use Rattle.op_codec.specs.AllOps.{AllOps}
use Rattle.formats.specs.Log.{end_of}
use Rattle.formats.specs.Records.{IsRecord, payload_of, record_code}
use Rattle.formats.specs.declared.record.Record.{Record}
use Rattle.log_blocks.specs.Forcing.{with_block}
use Rattle.log_blocks.specs.Payloads.{PayloadReaderView, HasNext, IsInLog, ahead, remaining}
use Rattle.log_records.specs.Codec.{StartsWithRecord}
use Rattle.redo_log.specs.Lines.{frame_line, line, record_line}
use Rattle.redo_log.specs.Reading.{SaysBlock, SaysBlocks, SaysRecord}
use Rattle.tool_output.specs.Saying.{OnlySays, says_nothing, says_then, still_agrees}
use Rattle.redo_log.proofs.ReadLemmas.{AreBlocksSaid, IsSayingBlock, IsSayingBlocks, block_more, part_more, place_is, record_said}
use Rattle.redo_log.specs.declared.choice.Choice.{Choice}

-- a record was found, said and taken
pub says_record : (w : Choice) (m : Meaning AllOps) (first mid new : Disk) (old searched moved : PayloadReaderView) (all passed : List (List ℕ)) (taken : List ℕ) (later : List (List ℕ)) (r : Record AllOps) (f : FileNo) (n place : ℕ) (text : List ℕ)
    → first.tells_files → Stays first mid → searched.file ≡ old.file → remaining searched ≡ remaining old
    → StartsWithRecord m searched.bytes r → n ≡ length (record_code m r) → 0 < remaining old
    → IsInLog (first.reads searched.file) searched all passed taken later
    → ((file : List ℕ) (payloads passed : List (List ℕ)) (taken : List ℕ) (later : List (List ℕ)) → IsInLog file searched payloads passed taken later → IsInLog file moved payloads passed (taken ++ take n searched.bytes) later)
    → moved ≡ record searched { bytes = drop n searched.bytes } → f ≡ searched.file → place + length searched.bytes ≡ searched.place
    → text ≡ record_line w m f place n r → new.said ≡ mid.said ++ text
    → SaysRecord w m (first.reads old.file) old moved all passed taken later first.said new.said
says_record w m first mid new old searched moved all passed taken later r f n place text told kept same all_of starts long some stands takes took is_file here text_is said =
    let stood : IsInLog (first.reads old.file) searched all passed taken later = subst (λ (f : FileNo). IsInLog (first.reads f) searched all passed taken later) same stands in
    record_said w m (first.reads old.file) old searched moved all passed taken later r f n place first.said new.said starts long all_of (is_file ∙ same) some stood (takes (first.reads old.file) all passed taken later stood) took here
    (said ∙ λ i. kept.said told i ++ text_is i)

-- the line of a block
pub head_text : (w : Choice) (file : List ℕ) (old : PayloadReaderView) (all passed later : List (List ℕ)) (f : FileNo) (place gate count : ℕ) (text : List ℕ) → f ≡ old.file
    → place + length old.bytes ≡ old.place → gate ≡ place - 5 → count ≡ remaining old → text ≡ frame_line w f gate count (codes "block")
    → IsInLog file old all passed [] later → 0 < remaining old → text ≡ frame_line w old.file (end_of passed) (remaining old) (codes "block")
head_text w file old all passed later f place gate count text is_file here gate_is count_is text_is is some =
    let at : gate ≡ end_of passed = omega (arith, gate_is, place_is file old all passed [] later place is some here) in
    text_is ∙ λ i. frame_line w (is_file i) (at i) (count_is i) (codes "block")

-- the line of a block was said, and no record yet
pub block_begun : (w : Choice) (m : Meaning AllOps) (first now : Disk) (old : PayloadReaderView) → OnlySays first now
    → (first.tells_files → (all passed later : List (List ℕ)) → IsInLog (first.reads old.file) old all passed [] later → 0 < remaining old → now.said ≡ first.said ++ frame_line w old.file (end_of passed) (remaining old) (codes "block"))
    → IsSayingBlock w m first now old old
block_begun w m first now old run said = record {
  run = run;
  file = refl;
  less = omega arith;
  said = λ told all passed later is some.
      let head = frame_line w old.file (end_of passed) (remaining old) (codes "block") in
      record {
        part = [];
        in_grammar = All-nil (IsRecord m);
        stands = is;
        count = omega arith;
        said = said told all passed later is some ∙ ap (λ (l : List ℕ). first.said ++ l) (sym (append-nil head));
      };
}

pub block_goes_on : (w : Choice) (m : Meaning AllOps) (first now new : Disk) (old it next : PayloadReaderView) → IsSayingBlock w m first now old it → OnlySays now new → next.file ≡ it.file → ahead next ≤ ahead it → 0 < remaining it
    → (now.tells_files → (all passed : List (List ℕ)) (taken : List ℕ) (later : List (List ℕ)) → IsInLog (now.reads it.file) it all passed taken later → 0 < remaining it → SaysRecord w m (now.reads it.file) it next all passed taken later now.said new.said)
    → IsSayingBlock w m first new old next
block_goes_on w m first now new old it next is run same less some step = record {
  run = says_then is.run run;
  file = same ∙ is.file;
  less = omega (arith, less, is.less);
  said = λ told all passed later stands more.
      let so_far = is.said told all passed later stands more in
      let taken = payload_of m so_far.part in
      let at : now.reads it.file ≡ first.reads old.file = λ i. is.run.reads told i (is.file i) in
      let here : IsInLog (now.reads it.file) it all passed taken later = subst (λ (f : List ℕ). IsInLog f it all passed taken later) (sym at) so_far.stands in
      part_more w m (first.reads old.file) old it next all passed later first.said now.said new.said is.file so_far
      (subst (λ (f : List ℕ). SaysRecord w m f it next all passed taken later now.said new.said) at (step (is.run.time.files_told.0 told) all passed taken later here some));
}

-- before the first block
pub no_block : (w : Choice) (m : Meaning AllOps) (first : Disk) (old : PayloadReaderView) → IsDisk first → remaining old ≡ 0 → IsSayingBlocks w m first first old old
no_block w m first old lawful none = record {
  run = says_nothing (stays_here first lawful);
  file = refl;
  through = none;
  said = λ told all is. record { groups = []; later = all; in_grammar = All-nil (IsRecord m); stands = is; said = sym (append-nil first.said) };
}

-- what the reader finds behind the blocks that were said, in the files that the machine reports
pub found_next : (w : Choice) (m : Meaning AllOps) (first now mid : Disk) (old it next : PayloadReaderView) (more : Bool) (is : IsSayingBlocks w m first now old it) → Stays now mid
    → ((files : Files) → mid.agrees files → (payloads passed : List (List ℕ)) (taken : List ℕ) (later : List (List ℕ)) → IsInLog (files it.file) it payloads passed taken later → HasNext (files next.file) next payloads (with_block passed taken) later more)
    → (told : first.tells_files) (all : List (List ℕ)) → (so_far : AreBlocksSaid w m (first.reads old.file) old it all first.said now.said)
    → HasNext (first.reads next.file) next all (map (payload_of m) so_far.groups) so_far.later more
found_next w m first now mid old it next more is kept step told all so_far =
    step first.reads (still_agrees (says_then is.run (says_nothing kept)) told) all (map (payload_of m) so_far.groups) [] so_far.later
    (subst (λ (f : FileNo). IsInLog (first.reads f) it all (map (payload_of m) so_far.groups) [] so_far.later) (sym is.file) so_far.stands)

pub blocks_go_on : (w : Choice) (m : Meaning AllOps) (first now mid new : Disk) (old it next last : PayloadReaderView) → IsSayingBlocks w m first now old it → Stays now mid → next.file ≡ it.file → 0 < remaining next
    → ((files : Files) → mid.agrees files → (payloads passed : List (List ℕ)) (taken : List ℕ) (later : List (List ℕ)) → IsInLog (files it.file) it payloads passed taken later → HasNext (files next.file) next payloads (with_block passed taken) later true)
    → OnlySays mid new → last.file ≡ next.file → remaining last ≡ 0
    → (mid.tells_files → (all passed later : List (List ℕ)) → IsInLog (mid.reads next.file) next all passed [] later → 0 < remaining next → SaysBlock w m (mid.reads next.file) next last all passed later mid.said new.said)
    → IsSayingBlocks w m first new old last
blocks_go_on w m first now mid new old it next last is kept same some step run same_last none says = record {
  run = says_then (says_then is.run (says_nothing kept)) run;
  file = same_last ∙ same ∙ is.file;
  through = none;
  said = λ told all stands.
      let so_far = is.said told all stands in
      let passed = map (payload_of m) so_far.groups in
      let told_now = is.run.time.files_told.0 told in
      let found = found_next w m first now mid old it next true is kept step told all so_far in
      let reads : mid.reads ≡ first.reads = kept.reads told_now ∙ is.run.reads told in
      let at : mid.reads next.file ≡ first.reads old.file = λ i. reads i ((same ∙ is.file) i) in
      let here : IsInLog (mid.reads next.file) next all passed [] found.1 = subst (λ (f : Files). IsInLog (f next.file) next all passed [] found.1) (sym reads) found.3 in
      block_more w m (first.reads old.file) old next last all so_far.groups found.1 first.said mid.said new.said (same ∙ is.file) so_far.in_grammar (kept.said told_now ∙ so_far.said) some none
      (subst (λ (f : List ℕ). SaysBlock w m f next last all passed found.1 mid.said new.said) at (says (kept.time.files_told.0 told_now) all passed found.1 here some));
}

-- behind the last block
pub blocks_done : (w : Choice) (m : Meaning AllOps) (first now mid : Disk) (old it next : PayloadReaderView) → IsSayingBlocks w m first now old it → Stays now mid
    → ((files : Files) → mid.agrees files → (payloads passed : List (List ℕ)) (taken : List ℕ) (later : List (List ℕ)) → IsInLog (files it.file) it payloads passed taken later → HasNext (files next.file) next payloads (with_block passed taken) later false)
    → (told : first.tells_files) (all : List (List ℕ)) → IsInLog (first.reads old.file) old all [] [] all → SaysBlocks w m old all first.said mid.said
blocks_done w m first now mid old it next is kept step told all stands =
    let so_far = is.said told all stands in
    record {
      groups = so_far.groups;
      in_grammar = so_far.in_grammar;
      all_are = found_next w m first now mid old it next false is kept step told all so_far;
      said = kept.said (is.run.time.files_told.0 told) ∙ so_far.said;
    }

-- what is not 0 is more
pub some_left : (n : ℕ) → (n ≡ 0 → ⊥) → 0 < n
some_left zero none = absurd (none refl)
some_left (suc n) none = omega arith
