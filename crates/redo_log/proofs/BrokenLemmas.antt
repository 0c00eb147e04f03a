-- Bytes of a log that are no record.
use Rattle.std.proofs.Common.{◌≡◌, ◌<◌, ◌+◌, ◌++◌, ◌∙◌, ⊎_elim, ◌⊎◌, ℕ, List, [], ap, append_assoc, arith, length, length-append, map, refl, subst, sym, true}
use Rattle.std.proofs.lemmas.List.{append-nil}
use Rattle.std.specs.Prelude.{Result, Ok, Err, IfErr, OnOk, codes}
use Rattle.disk_model.specs.Disk.{Disk, Files, Passes, Stays, read_of}
use Rattle.disk_model.specs.Moments.{told_agrees}
use Rattle.disk_model.specs.declared.machine.FileNo.{FileNo}
use Rattle.formats.specs.InForce.{HoldsLog}
use Rattle.formats.specs.Log.{Header, end_of}
use Rattle.formats.specs.Records.{payload_of}
use Rattle.log_blocks.specs.Forcing.{with_block}
use Rattle.log_blocks.specs.Payloads.{HasNext, IsInLog, IsNoLog, PayloadReaderView, remaining, untaken}
use Rattle.op_codec.specs.AllOps.{AllOps}
use Rattle.oper_core.specs.Meaning.{Meaning}
use Rattle.redo_log.specs.Unreadable.{AreUnreadable, FindsNone, IsBroken}
use Rattle.tool_output.specs.Faults.{CountsStop, StopsBy}
use Rattle.redo_log.specs.Fronts.{AreLinesToNone, SaysBlockToNone, SaysNone}
use Rattle.redo_log.specs.Lines.{begun_lines, blocks_lines, frame_line, header_words, record_lines}
use Rattle.tool_output.specs.Saying.{OnlySays, says_nothing, says_then, still_agrees}
use Rattle.tool_output.specs.declared.stop.Stop.{Stop}
use Rattle.tool_output.specs.declared.stop.Stop.TheVariants as stops
use Rattle.tool_output.specs.FaultLaws.{counted_since, counted_until, stops_counted}
use Rattle.redo_log.proofs.ReadLemmas.{IsSayingBlock, IsSayingBlocks}
use Rattle.redo_log.proofs.Steps.{found_next}
use Rattle.redo_log.specs.declared.choice.Choice.{Choice}

-- all bytes of the payload are in memory, and no record begins with those that were not taken
pub none_found : (m : Meaning AllOps) (first mid : Disk) (old it : PayloadReaderView) → Stays first mid → it.file ≡ old.file → FindsNone m mid old it → first.tells_files → (all passed : List (List ℕ)) (taken : List ℕ) (later : List (List ℕ))
    → IsInLog (first.reads old.file) old all passed taken later → 0 < remaining old → SaysNone m (remaining old) all passed taken later first.said mid.said
none_found m first mid old it kept same finds told all passed taken later stands some =
    let is = finds.read first.reads (told_agrees kept told) all passed taken later stands in
    let file = first.reads it.file in
    let rest : untaken file it ≡ it.bytes = (λ i. it.bytes ++ read_of file it.place (finds.whole i)) ∙ append-nil it.bytes in
    record {
      behind = record {
        rest = it.bytes;
        some = omega (arith, some, finds.all, finds.whole);
        here = is.payloads_are ∙ ap (λ (l : List ℕ). with_block passed (taken ++ l) ++ later) rest;
        none = finds.none;
      };
      long = omega (arith, finds.all, finds.whole);
      silent = kept.said told;
    }

-- behind the records of a block that were said
pub block_broken : (w : Choice) (m : Meaning AllOps) (first now : Disk) (after : List ℕ) (old it : PayloadReaderView) → IsSayingBlock w m first now old it → 0 < remaining it
    → (now.tells_files → (all passed : List (List ℕ)) (taken : List ℕ) (later : List (List ℕ)) → IsInLog (now.reads it.file) it all passed taken later → 0 < remaining it → SaysNone m (remaining it) all passed taken later now.said after)
    → first.tells_files → (all passed later : List (List ℕ)) → IsInLog (first.reads old.file) old all passed [] later → 0 < remaining old → SaysBlockToNone w m old.file all passed later first.said after
block_broken w m first now after old it is some breaks told all passed later stands more =
    let so_far = is.said told all passed later stands more in
    let taken = payload_of m so_far.part in
    let at : now.reads it.file ≡ first.reads old.file = λ i. is.run.reads told i (is.file i) in
    let none = breaks (is.run.time.files_told.0 told) all passed taken later (subst (λ (f : List ℕ). IsInLog f it all passed taken later) (sym at) so_far.stands) some in
    let long : remaining old ≡ length (taken ++ none.behind.rest) = omega (arith, length-append taken none.behind.rest, none.long, so_far.count) in
    record {
      is = record { part = so_far.part; in_grammar = so_far.in_grammar; behind = none.behind };
      said = none.silent ∙ so_far.said ∙ λ i. first.said ++ (frame_line w old.file (end_of passed) (long i) (codes "block") ++ record_lines w m old.file (end_of passed + 5) so_far.part);
    }

-- behind the blocks that were said
pub blocks_broken : (w : Choice) (m : Meaning AllOps) (first now mid : Disk) (after : List ℕ) (old it next : PayloadReaderView) → IsSayingBlocks w m first now old it → Stays now mid → next.file ≡ it.file → 0 < remaining next
    → ((files : Files) → mid.agrees files → (payloads passed : List (List ℕ)) (taken : List ℕ) (later : List (List ℕ)) → IsInLog (files it.file) it payloads passed taken later → HasNext (files next.file) next payloads (with_block passed taken) later true)
    → (mid.tells_files → (all passed later : List (List ℕ)) → IsInLog (mid.reads next.file) next all passed [] later → 0 < remaining next → SaysBlockToNone w m next.file all passed later mid.said after)
    → first.tells_files → (all : List (List ℕ)) → IsInLog (first.reads old.file) old all [] [] all → (text : List ℕ) × AreLinesToNone w m old.file all text × (after ≡ first.said ++ text)
blocks_broken w m first now mid after old it next is kept same some step broken told all stands =
    let so_far = is.said told all stands in
    let groups = so_far.groups in
    let passed = map (payload_of m) groups in
    let told_now = is.run.time.files_told.0 told in
    let found = found_next w m first now mid old it next true is kept step told all so_far in
    let reads : mid.reads ≡ first.reads = kept.reads told_now ∙ is.run.reads told in
    let here : IsInLog (mid.reads next.file) next all passed [] found.1 = subst (λ (f : Files). IsInLog (f next.file) next all passed [] found.1) (sym reads) found.3 in
    let none = broken (kept.time.files_told.0 told_now) all passed found.1 here some in
    let payload = payload_of m none.is.part ++ none.is.behind.rest in
    let lines = blocks_lines w m old.file 33 groups in
    let begun = begun_lines w m old.file (end_of passed) payload none.is.part in
    let before : mid.said ≡ first.said ++ lines = kept.said told_now ∙ so_far.said in (
      lines ++ begun,
      record { groups = groups; later = found.1; in_grammar = so_far.in_grammar; is = none.is; text_is = refl },
      none.said ∙ (λ i. before i ++ begun_lines w m ((same ∙ is.file) i) (end_of passed) payload none.is.part) ∙ append_assoc first.said lines begun,
    )

-- a reader that stands in a whole log finds no fault in its blocks
pub no_block_fault : (w : Choice) (m : Meaning AllOps) (first now mid : Disk) (after : List ℕ) (old it : PayloadReaderView) → IsSayingBlocks w m first now old it → Stays now mid → (file : FileNo) (place : ℕ) → IsNoLog mid it file place
    → first.tells_files → (all : List (List ℕ)) → IsInLog (first.reads old.file) old all [] [] all → (text : List ℕ) × AreLinesToNone w m old.file all text × (after ≡ first.said ++ text)
no_block_fault w m first now mid after old it is kept file place none told all stands =
    let so_far = is.said told all stands in
    absurd (none.1 first.reads (still_agrees (says_then is.run (says_nothing kept)) told) all (map (payload_of m) so_far.groups) [] so_far.later
    (subst (λ (f : FileNo). IsInLog (first.reads f) it all (map (payload_of m) so_far.groups) [] so_far.later) (sym is.file) so_far.stands))

-- of a log whose header was said
pub log_broken : (w : Choice) (m : Meaning AllOps) (first one two : Disk) (after : List ℕ) (active : FileNo) (header : Header) (it : PayloadReaderView) → OnlySays first one → Stays one two → it.file ≡ active
    → (first.tells_files → one.said ≡ first.said ++ frame_line w active 0 33 (header_words header))
    → ((payloads : List (List ℕ)) → first.tells_files → HoldsLog active header payloads first.reads → IsInLog (first.reads active) it payloads [] [] payloads)
    → (two.tells_files → (all : List (List ℕ)) → IsInLog (two.reads it.file) it all [] [] all → (text : List ℕ) × AreLinesToNone w m it.file all text × (after ≡ two.said ++ text))
    → first.tells_files → (payloads : List (List ℕ)) → HoldsLog active header payloads first.reads
    → (text : List ℕ) × AreLinesToNone w m active payloads text × (after ≡ first.said ++ (frame_line w active 0 33 (header_words header) ++ text))
log_broken w m first one two after active header it head kept same said starts broken told payloads holds =
    let told_one = head.time.files_told.0 told in
    let reads_two : two.reads ≡ first.reads = kept.reads told_one ∙ head.reads told in
    let at : two.reads it.file ≡ first.reads active = λ i. reads_two i (same i) in
    let (text, lines, all) = broken (kept.time.files_told.0 told_one) payloads (subst (λ (f : List ℕ). IsInLog f it payloads [] [] payloads) (sym at) (starts payloads told holds)) in (
      text,
      subst (λ (f : FileNo). AreLinesToNone w m f payloads text) same lines,
      all ∙ ap (λ (l : List ℕ). l ++ text) (kept.said told_one ∙ said told) ∙ append_assoc first.said (frame_line w active 0 33 (header_words header)) text,
    )

-- what a saying of the log tells of it
is_broken : (m : Meaning AllOps) (old new : Disk) (found : FileNo → ℕ → Type 0) (payloads : List (List ℕ)) (stop : Stop) → ((file : FileNo) (place : ℕ) → found file place → AreUnreadable m payloads) → StopsBy old new found stop → IsBroken m payloads stop
is_broken m old new found payloads stops.NotAStore more is = is
is_broken m old new found payloads (stops.Damaged file place) more is = more file place is
is_broken m old new found payloads stops.DiskFault more is = tt
is_broken m old new found payloads stops.SayFault more is = tt
is_broken m old new found payloads stops.Memory more is = tt

pub said_broken : {T : Type 0} (m : Meaning AllOps) (old new : Disk) (found : FileNo → ℕ → Type 0) (payloads : List (List ℕ)) (said : Result T Stop) → ((file : FileNo) (place : ℕ) → found file place → AreUnreadable m payloads)
    → IfErr said (StopsBy old new found) → IfErr said (IsBroken m payloads)
said_broken m old new found payloads (Ok value) more is = tt
said_broken m old new found payloads (Err stop) more is = is_broken m old new found payloads stop more is

-- a fault of the saying or of the check after it was counted since both began
pub end_counted : {T : Type 0} (first mid new last : Disk) (found : FileNo → ℕ → Type 0) (said : Result T Stop) (stop : Stop) → Passes first mid → Passes first new → Passes new last → IfErr said (StopsBy mid new found) → CountsStop new last stop ⊎ (said ≡ Err stop) → CountsStop first last stop
end_counted first mid new last found said stop before both after is ended = ⊎_elim
    (λ later. counted_since first new last stop both later)
    (λ same. counted_until first new last stop after (counted_since first mid new stop before (stops_counted mid new found stop (subst (λ (r : Result _ Stop). IfErr r (StopsBy mid new found)) same is))))
    ended

-- what holds of each error
pub on_err : {T E : Type 0} {P Q : E → Type 0} (result : Result T E) → ((e : E) → P e → Q e) → IfErr result P → IfErr result Q
on_err (Ok value) more is = tt
on_err (Err e) more is = more e is

-- what holds of a success
pub if_ok : {T E P Q : Type 0} (result : Result T E) → (P → Q) → OnOk result P → OnOk result Q
if_ok (Ok value) more is = more is
if_ok (Err e) more is = tt
