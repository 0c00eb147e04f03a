-- What is said of the log of a store.
use Rattle.std.proofs.Common.{◌≡◌, inl, inr, ℕ, List, [], ◌++◌, map, drop, refl, sym, ap, ◌∙◌, subst, append_assoc}
use Rattle.std.specs.Prelude.{codes, Result, Ok, Err, IfErr, IsOk, OnErr, OnOk}
use Rattle.std.proofs.lemmas.List.{append-nil}
use Rattle.std.proofs.lemmas.List.Elements.{All-nil}
use Rattle.disk_model.specs.Disk.{Disk, Files, SaysFront, Stays}
use Rattle.disk_model.specs.declared.machine.FileNo.{FileNo}
use Rattle.disk_model.specs.declared.machine.FileNo.TheVariants.{Objects}
use Rattle.oper_core.specs.Meaning.{Meaning}
use Rattle.oper_core.specs.declared.bounds.Bounds.{Bounds}
use Rattle.op_codec.specs.AllOps.{AllOps, all_meaning}
use Rattle.formats.specs.FirstFault.{AreObjectsWhole, IsFirstLogFault, IsFirstObjectsFault}
use Rattle.formats.specs.InForce.{HoldsLog}
use Rattle.formats.specs.Log.{Header, end_of}
use Rattle.formats.specs.Objects.{bounds_of, params_in}
use Rattle.formats.specs.Reading.{FailsBy}
use Rattle.formats.specs.Records.{HoldsRecordLog, IsRecord, payload_of}
use Rattle.formats.specs.declared.record.Record.{Record}
use Rattle.formats.specs.declared.read_err.ReadErr.{ReadErr}
use Rattle.formats.specs.declared.read_err.ReadErr.TheVariants as reads
use Rattle.log_blocks.specs.Payloads.{IsInLog, PayloadReaderView}
use Rattle.stable_objects.specs.Reading.{OpensNot}
use Rattle.stable_objects.specs.declared.open_err.OpenErr.{OpenErr}
use Rattle.stable_objects.specs.declared.open_err.OpenErr.TheVariants as opens
use Rattle.tool_output.specs.Faults.{StopsBy}
use Rattle.redo_log.specs.Fronts.{AreFirstLines, AreLinesBefore, AreLinesToNone, AreLogLines, IsDamage, SaysLogPart, SaysNoMore, SaysOfLog}
use Rattle.tool_output.specs.Lines.{damaged, not_a_store, stop_line}
use Rattle.redo_log.specs.Fronts.AreFirstLines.{to_block}
use Rattle.redo_log.specs.Fronts.AreLinesBefore.{of_logs, of_objects, of_places, of_records}
use Rattle.redo_log.specs.Fronts.AreLogLines.{all_lines, first_lines}
use Rattle.redo_log.specs.Fronts.IsReport.{no_store, of_damage, of_log}
use Rattle.redo_log.specs.Lines.{blocks_lines, frame_line, header_words, line, log_lines, used}
use Rattle.redo_log.specs.Listing.{ArePlaced, IsListed, SaysLog}
use Rattle.tool_output.specs.Found.{HasStore, IsLogStopped, IsStopped}
use Rattle.redo_log.specs.Reading.{SaysBlocks}
use Rattle.tool_output.specs.Saying.{OnlySays}
use Rattle.tool_output.specs.Stops.{stop_from_open, stop_from_read}
use Rattle.tool_output.specs.declared.stop.Stop.{Stop}
use Rattle.tool_output.specs.declared.stop.Stop.TheVariants as stops
use Rattle.tool_output.specs.FrontLaws.{all_said, front_at, front_behind, said_none}
use Rattle.redo_log.specs.declared.choice.Choice.{Choice}

-- the header and the blocks were said
blocks_at : (w : Choice) (m : Meaning AllOps) (active : FileNo) (header : Header) (payloads : List (List ℕ)) (it : PayloadReaderView) (first one two three : List ℕ) → it.file ≡ active
    → one ≡ first ++ frame_line w active 0 33 (header_words header) → two ≡ one → (blocks : SaysBlocks w m it payloads two three) → three ≡ first ++ (frame_line w active 0 33 (header_words header) ++ blocks_lines w m active 33 blocks.groups)
blocks_at w m active header payloads it first one two three same head still blocks =
    let head_line = frame_line w active 0 33 (header_words header) in
    let lines = blocks_lines w m active 33 blocks.groups in
    blocks.said ∙ ap (λ (f : FileNo). two ++ blocks_lines w m f 33 blocks.groups) same ∙ ap (λ (l : List ℕ). l ++ lines) (still ∙ head) ∙ append_assoc first head_line lines

-- the line of the end
end_at : (w : Choice) (m : Meaning AllOps) (files : Files) (active : FileNo) (payloads : List (List ℕ)) (groups : List (List (Record AllOps))) (end : ℕ) → end ≡ end_of payloads → payloads ≡ map (payload_of m) groups
    → frame_line w active end (used (drop end (files active))) (codes "end") ≡ frame_line w active (end_of (map (payload_of m) groups)) (used (drop (end_of payloads) (files active))) (codes "end")
end_at w m files active payloads groups end end_is same =
    (λ i. frame_line w active (end_is i) (used (drop (end_is i) (files active))) (codes "end")) ∙ ap (λ (l : List (List ℕ)). frame_line w active (end_of l) (used (drop (end_of payloads) (files active))) (codes "end")) same

-- a header, the blocks, and the end were said
pub log_said : (w : Choice) (m : Meaning AllOps) (files : Files) (active : FileNo) (header : Header) (payloads : List (List ℕ)) (it : PayloadReaderView) (end : ℕ) (first one two three four : List ℕ) → it.file ≡ active
    → one ≡ first ++ frame_line w active 0 33 (header_words header) → two ≡ one → SaysBlocks w m it payloads two three → end ≡ end_of payloads
    → four ≡ three ++ frame_line w active end (used (drop end (files active))) (codes "end") → SaysLog w m files active header payloads first four
log_said w m files active header payloads it end first one two three four same head still blocks end_is tail =
    let groups = blocks.groups in
    let head_line = frame_line w active 0 33 (header_words header) in
    let lines = blocks_lines w m active 33 groups in
    let end_line = frame_line w active (end_of (map (payload_of m) groups)) (used (drop (end_of payloads) (files active))) (codes "end") in
    let tail_is = end_at w m files active payloads groups end end_is blocks.all_are in
    let before = blocks_at w m active header payloads it first one two three same head still blocks in
    record {
      groups = groups;
      in_grammar = blocks.in_grammar;
      payloads_are = blocks.all_are;
      said = tail ∙ (λ i. before i ++ tail_is i) ∙ append_assoc first (head_line ++ lines) end_line;
    }

-- a header and the blocks, and of the end a front
log_to_end : (w : Choice) (m : Meaning AllOps) (files : Files) (active : FileNo) (header : Header) (payloads : List (List ℕ)) (it : PayloadReaderView) (end : ℕ) (first one two three after : List ℕ) → it.file ≡ active
    → one ≡ first ++ frame_line w active 0 33 (header_words header) → two ≡ one → SaysBlocks w m it payloads two three → end ≡ end_of payloads
    → SaysFront (frame_line w active end (used (drop end (files active))) (codes "end")) three after → (text : List ℕ) × AreLogLines w m files active header payloads text × SaysFront text first after
log_to_end w m files active header payloads it end first one two three after same head still blocks end_is tail =
    let groups = blocks.groups in
    let before = frame_line w active 0 33 (header_words header) ++ blocks_lines w m active 33 groups in
    let end_line = frame_line w active (end_of (map (payload_of m) groups)) (used (drop (end_of payloads) (files active))) (codes "end") in (
      before ++ end_line,
      all_lines groups blocks.in_grammar blocks.all_are refl,
      front_behind before end_line first three after (blocks_at w m active header payloads it first one two three same head still blocks)
          (front_at end_line (frame_line w active end (used (drop end (files active))) (codes "end")) three three after (end_at w m files active payloads groups end end_is blocks.all_are) refl tail),
    )

-- of a log no more than its header
pub log_head : (w : Choice) (m : Meaning AllOps) (files : Files) (active : FileNo) (header : Header) (payloads : List (List ℕ)) (before after : List ℕ) → SaysFront (frame_line w active 0 33 (header_words header)) before after
    → (text : List ℕ) × AreLogLines w m files active header payloads text × SaysFront text before after
log_head w m files active header payloads before after front =
    let head = frame_line w active 0 33 (header_words header) in (
      head ++ [],
      first_lines [] (to_block [] payloads (All-nil (IsRecord m)) refl refl) refl,
      front_at (head ++ []) head before before after (sym (append-nil head)) refl front,
    )

-- of a log whose header was said, no more than its first blocks
pub blocks_of_log : (w : Choice) (m : Meaning AllOps) (first one two : Disk) (after : List ℕ) (active : FileNo) (header : Header) (payloads : List (List ℕ)) (it : PayloadReaderView) → first.tells_files → OnlySays first one → Stays one two
    → one.said ≡ first.said ++ frame_line w active 0 33 (header_words header) → it.file ≡ active → IsInLog (first.reads active) it payloads [] [] payloads
    → (two.tells_files → (all : List (List ℕ)) → IsInLog (two.reads it.file) it all [] [] all → (text : List ℕ) × AreFirstLines w m it.file all text × SaysFront text two.said after)
    → (text : List ℕ) × AreLogLines w m first.reads active header payloads text × SaysFront text first.said after
blocks_of_log w m first one two after active header payloads it told head kept said same stands blocks =
    let told_one = head.time.files_told.0 told in
    let reads_two : two.reads ≡ first.reads = kept.reads told_one ∙ head.reads told in
    let at : two.reads it.file ≡ first.reads active = λ i. reads_two i (same i) in
    let (text, lines, front) = blocks (kept.time.files_told.0 told_one) payloads (subst (λ (f : List ℕ). IsInLog f it payloads [] [] payloads) (sym at) stands) in (
      frame_line w active 0 33 (header_words header) ++ text,
      first_lines text (subst (λ (f : FileNo). AreFirstLines w m f payloads text) same lines) refl,
      front_behind (frame_line w active 0 33 (header_words header)) text first.said two.said after (kept.said told_one ∙ said) front,
    )

-- the log that was said is whole
pub is_listed : (w : Choice) (files : Files) (b : Bounds) (active : FileNo) (header : Header) (payloads : List (List ℕ)) (before after : List ℕ) → HasStore files b → HoldsLog active header payloads files
    → SaysLog w (all_meaning b) files active header payloads before after → ArePlaced (all_meaning b) files → IsListed w files before after
is_listed w files b active header payloads before after store holds says placed =
    let groups = says.groups in
    let m = all_meaning b in
    let same : b ≡ bounds_of (params_in (files Objects)) = store.1 in
    let held = placed active header groups (subst (λ (l : List (List ℕ)). HoldsLog active header l files) says.payloads_are holds) says.in_grammar in
    let said : after ≡ before ++ log_lines w m active header groups (used (drop (end_of (map (payload_of m) groups)) (files active))) =
    says.said ∙ ap (λ (l : List (List ℕ)). before ++ log_lines w m active header groups (used (drop (end_of l) (files active)))) says.payloads_are in
    record {
      active = active;
      header = header;
      groups = groups;
      log = subst (λ (c : Bounds). HoldsRecordLog (all_meaning c) active header groups files) same held;
      said = subst (λ (c : Bounds). after ≡ before ++ log_lines w (all_meaning c) active header groups (used (drop (end_of (map (payload_of (all_meaning c)) groups)) (files active)))) same said;
    }

-- the header, the blocks and the end were said, one after the other
pub log_goes_on : (w : Choice) (m : Meaning AllOps) (first one two three four : Disk) (active place : FileNo) (header : Header) (payloads : List (List ℕ)) (it : PayloadReaderView) (end : ℕ) → first.tells_files
    → OnlySays first one → Stays one two → OnlySays two three → one.said ≡ first.said ++ frame_line w active 0 33 (header_words header) → it.file ≡ active → place ≡ active → end ≡ end_of payloads
    → IsInLog (first.reads active) it payloads [] [] payloads
    → (two.tells_files → (all : List (List ℕ)) → IsInLog (two.reads it.file) it all [] [] all → SaysBlocks w m it all two.said three.said)
    → (three.tells_files → four.said ≡ three.said ++ frame_line w place end (used (drop end (three.reads place))) (codes "end"))
    → SaysLog w m first.reads active header payloads first.said four.said
log_goes_on w m first one two three four active place header payloads it end told head kept lines head_said same place_is end_is stands blocks tail =
    let told_one = head.time.files_told.0 told in
    let told_two = kept.time.files_told.0 told_one in
    let told_three = lines.time.files_told.0 told_two in
    let reads_two : two.reads ≡ first.reads = kept.reads told_one ∙ head.reads told in
    let reads_three : three.reads ≡ first.reads = lines.reads told_two ∙ reads_two in
    let at : two.reads it.file ≡ first.reads active = λ i. reads_two i (same i) in
    let said = blocks told_two payloads (subst (λ (f : List ℕ). IsInLog f it payloads [] [] payloads) (sym at) stands) in
    log_said w m first.reads active header payloads it end first.said one.said two.said three.said four.said same head_said (kept.said told_one) said end_is
    (tail told_three ∙ λ i. three.said ++ frame_line w (place_is i) end (used (drop end (reads_three i (place_is i)))) (codes "end"))

-- the end was said in part
pub log_end_part : (w : Choice) (m : Meaning AllOps) (first one two three : Disk) (after : List ℕ) (active place : FileNo) (header : Header) (payloads : List (List ℕ)) (it : PayloadReaderView) (end : ℕ) → first.tells_files
    → OnlySays first one → Stays one two → OnlySays two three → one.said ≡ first.said ++ frame_line w active 0 33 (header_words header) → it.file ≡ active → place ≡ active → end ≡ end_of payloads
    → IsInLog (first.reads active) it payloads [] [] payloads
    → (two.tells_files → (all : List (List ℕ)) → IsInLog (two.reads it.file) it all [] [] all → SaysBlocks w m it all two.said three.said)
    → (three.tells_files → SaysFront (frame_line w place end (used (drop end (three.reads place))) (codes "end")) three.said after)
    → (text : List ℕ) × AreLogLines w m first.reads active header payloads text × SaysFront text first.said after
log_end_part w m first one two three after active place header payloads it end told head kept lines head_said same place_is end_is stands blocks tail =
    let told_one = head.time.files_told.0 told in
    let told_two = kept.time.files_told.0 told_one in
    let told_three = lines.time.files_told.0 told_two in
    let reads_two : two.reads ≡ first.reads = kept.reads told_one ∙ head.reads told in
    let reads_three : three.reads ≡ first.reads = lines.reads told_two ∙ reads_two in
    let at : two.reads it.file ≡ first.reads active = λ i. reads_two i (same i) in
    let said = blocks told_two payloads (subst (λ (f : List ℕ). IsInLog f it payloads [] [] payloads) (sym at) stands) in
    log_to_end w m first.reads active header payloads it end first.said one.said two.said three.said after same head_said (kept.said told_one) said end_is
    (front_at (frame_line w active end (used (drop end (first.reads active))) (codes "end")) (frame_line w place end (used (drop end (three.reads place))) (codes "end")) three.said three.said after (λ i. frame_line w (place_is i) end (used (drop end (reads_three i (place_is i)))) (codes "end")) refl (tail told_three))

-- the log was said, and checked
pub listed : (w : Choice) (first mid new last : Disk) (b : Bounds) (active : FileNo) (header : Header) (payloads : List (List ℕ)) → first.tells_files → HasStore first.reads b → Stays first mid → OnlySays mid new → Stays new last
    → HoldsLog active header payloads first.reads
    → (mid.tells_files → HoldsLog active header payloads mid.reads → SaysLog w (all_meaning b) mid.reads active header payloads mid.said new.said)
    → (new.tells_files → HasStore new.reads b → ArePlaced (all_meaning b) new.reads) → IsListed w first.reads first.said last.said
listed w first mid new last b active header payloads told store kept run end holds says placed =
    let told_mid = kept.time.files_told.0 told in
    let told_new = run.time.files_told.0 told_mid in
    let reads_mid : mid.reads ≡ first.reads = kept.reads told in
    let reads_new : new.reads ≡ first.reads = run.reads told_mid ∙ reads_mid in
    let said = says told_mid (subst (λ (f : Files). HoldsLog active header payloads f) (sym reads_mid) holds) in
    let here = placed told_new (subst (λ (f : Files). HasStore f b) (sym reads_new) store) in
    is_listed w first.reads b active header payloads first.said last.said store holds
    (subst (λ (s : List ℕ). SaysLog w (all_meaning b) first.reads active header payloads first.said s) (sym (end.said told_new))
    (subst (λ (s : List ℕ). SaysLog w (all_meaning b) first.reads active header payloads s new.said) (kept.said told)
    (subst (λ (f : Files). SaysLog w (all_meaning b) f active header payloads mid.said new.said) reads_mid said)))
    (subst (λ (f : Files). ArePlaced (all_meaning b) f) reads_new here)

-- what holds of a success
pub on_ok : {T E : Type 0} (result : Result T E) (P : Type 0) → IsOk result → OnOk result P → P
on_ok (Ok value) P is holds = holds
on_ok (Err e) P is holds = cc

-- Of a listing that stopped.

-- the objects file has a fault
pub objects_fault : (files : Files) (closed rises : Type 0) (fault : FileNo → ℕ → Type 0) (e : OpenErr) → ((file : FileNo) (place : ℕ) → fault file place → IsFirstObjectsFault (files Objects) place)
    → OpensNot closed (FailsBy rises fault) e → IsDamage (stop_from_open e) → (place : ℕ) × IsFirstObjectsFault (files Objects) place
objects_fault files closed rises fault opens.NotAStore more fails damage = absurd damage
objects_fault files closed rises fault opens.DiskFault more fails damage = absurd damage
objects_fault files closed rises fault (opens.Damaged file place) more fails damage = (place, more file place fails)
objects_fault files closed rises fault opens.Memory more fails damage = absurd damage

-- the logs have one
pub logs_fault : (w : Choice) (m : Meaning AllOps) (files : Files) (before after : List ℕ) (rises : Type 0) (fault : FileNo → ℕ → Type 0) (e : ReadErr) → ((file : FileNo) (place : ℕ) → fault file place → IsFirstLogFault files file place)
    → AreObjectsWhole files → after ≡ before → FailsBy rises fault e → IsDamage (stop_from_read e) → (lines : List ℕ) × AreLinesBefore w m files lines × (after ≡ before ++ lines)
logs_fault w m files before after rises fault reads.DiskFault more whole same fails damage = absurd damage
logs_fault w m files before after rises fault (reads.Damaged file place) more whole same fails damage = ([], of_logs file place whole (more file place fails) refl, same ∙ sym (append-nil before))
logs_fault w m files before after rises fault reads.Memory more whole same fails damage = absurd damage

-- a log was said, or a part of it
part_of : {T : Type 0} (w : Choice) (m : Meaning AllOps) (files : Files) (active : FileNo) (header : Header) (payloads : List (List ℕ)) (before after : List ℕ) (said : Result T Stop) → HoldsLog active header payloads files
    → OnOk said (SaysLog w m files active header payloads before after) → OnErr said ((text : List ℕ) × AreLogLines w m files active header payloads text × SaysFront text before after) → SaysLogPart w m files before after
part_of w m files active header payloads before after (Ok value) holds all part = record {
  active = active;
  header = header;
  payloads = payloads;
  log = holds;
  text = log_lines w m active header all.groups (used (drop (end_of payloads) (files active)));
  lines = all_lines all.groups all.in_grammar all.payloads_are refl;
  front = all_said (log_lines w m active header all.groups (used (drop (end_of payloads) (files active)))) before after all.said;
}
part_of w m files active header payloads before after (Err stop) holds all part = record {
  active = active;
  header = header;
  payloads = payloads;
  log = holds;
  text = part.0;
  lines = part.1;
  front = part.2;
}

pub log_part : {T : Type 0} (w : Choice) (m : Meaning AllOps) (first mid new last : Disk) (active : FileNo) (header : Header) (payloads : List (List ℕ)) (said : Result T Stop) → first.tells_files → Stays first mid → OnlySays mid new → Stays new last
    → HoldsLog active header payloads first.reads
    → (mid.tells_files → HoldsLog active header payloads mid.reads → OnOk said (SaysLog w m mid.reads active header payloads mid.said new.said))
    → (mid.tells_files → HoldsLog active header payloads mid.reads → OnErr said ((text : List ℕ) × AreLogLines w m mid.reads active header payloads text × SaysFront text mid.said new.said))
    → SaysLogPart w m first.reads first.said last.said
log_part w m first mid new last active header payloads said told kept run end holds all part =
    let told_mid = kept.time.files_told.0 told in
    let told_new = run.time.files_told.0 told_mid in
    let reads_mid : mid.reads ≡ first.reads = kept.reads told in
    let here = subst (λ (f : Files). HoldsLog active header payloads f) (sym reads_mid) holds in
    let is = part_of w m mid.reads active header payloads mid.said new.said said here (all told_mid here) (part told_mid here) in
    subst (λ (s : List ℕ). SaysLogPart w m first.reads first.said s) (sym (end.said told_new))
    (subst (λ (s : List ℕ). SaysLogPart w m first.reads s new.said) (kept.said told)
    (subst (λ (f : Files). SaysLogPart w m f mid.said new.said) reads_mid is))

-- a log was said before its damage was told
before_damage : {T : Type 0} (w : Choice) (m : Meaning AllOps) (old new : Disk) (files : Files) (active : FileNo) (header : Header) (payloads : List (List ℕ)) (before after : List ℕ) (said : Result T Stop) (found : FileNo → ℕ → Type 0) → AreObjectsWhole files → HoldsLog active header payloads files
    → ((file : FileNo) (place : ℕ) → found file place → (lines : List ℕ) × AreLinesToNone w m active payloads lines × (after ≡ before ++ (frame_line w active 0 33 (header_words header) ++ lines)))
    → IfErr said IsDamage → OnOk said (SaysLog w m files active header payloads before after) → IfErr said (StopsBy old new found) → (lines : List ℕ) × AreLinesBefore w m files lines × (after ≡ before ++ lines)
before_damage w m old new files active header payloads before after (Ok value) found whole holds more damage all stops_by = (
  log_lines w m active header all.groups (used (drop (end_of payloads) (files active))),
  of_places active header all.groups whole (subst (λ (l : List (List ℕ)). HoldsLog active header l files) all.payloads_are holds) all.in_grammar
      (ap (λ (l : List (List ℕ)). log_lines w m active header all.groups (used (drop (end_of l) (files active)))) all.payloads_are),
  all.said,
)
before_damage w m old new files active header payloads before after (Err stops.NotAStore) found whole holds more damage all stops_by = absurd damage
before_damage w m old new files active header payloads before after (Err (stops.Damaged file place)) found whole holds more damage all stops_by =
    let (lines, are, is) = more file place stops_by in
    (frame_line w active 0 33 (header_words header) ++ lines, of_records active header payloads lines whole holds are refl, is)
before_damage w m old new files active header payloads before after (Err stops.DiskFault) found whole holds more damage all stops_by = absurd damage
before_damage w m old new files active header payloads before after (Err stops.SayFault) found whole holds more damage all stops_by = absurd damage
before_damage w m old new files active header payloads before after (Err stops.Memory) found whole holds more damage all stops_by = absurd damage

pub log_damage : {T : Type 0} (w : Choice) (m : Meaning AllOps) (first mid new last : Disk) (active : FileNo) (header : Header) (payloads : List (List ℕ)) (said : Result T Stop) → first.tells_files → Stays first mid → OnlySays mid new → Stays new last
    → AreObjectsWhole first.reads → HoldsLog active header payloads first.reads → IfErr said IsDamage
    → (mid.tells_files → HoldsLog active header payloads mid.reads → OnOk said (SaysLog w m mid.reads active header payloads mid.said new.said))
    → IfErr said (StopsBy mid new (λ file place. mid.tells_files → (payloads : List (List ℕ)) → HoldsLog active header payloads mid.reads
    → (lines : List ℕ) × AreLinesToNone w m active payloads lines × (new.said ≡ mid.said ++ (frame_line w active 0 33 (header_words header) ++ lines))))
    → (lines : List ℕ) × AreLinesBefore w m first.reads lines × (last.said ≡ first.said ++ lines)
log_damage w m first mid new last active header payloads said told kept run end whole holds damage all stops_by =
    let told_mid = kept.time.files_told.0 told in
    let told_new = run.time.files_told.0 told_mid in
    let reads_mid : mid.reads ≡ first.reads = kept.reads told in
    let here = subst (λ (f : Files). HoldsLog active header payloads f) (sym reads_mid) holds in
    let whole_here = subst AreObjectsWhole (sym reads_mid) whole in
    let (lines, are, is) = before_damage w m mid new mid.reads active header payloads mid.said new.said said _ whole_here here (λ file place found. found told_mid payloads here) damage (all told_mid here) stops_by in (
      lines,
      subst (λ (f : Files). AreLinesBefore w m f lines) reads_mid are,
      end.said told_new ∙ is ∙ ap (λ (l : List ℕ). l ++ lines) (kept.said told),
    )

-- no last line was said
pub no_last : (w : Choice) (m : Meaning AllOps) (files : Files) (before after : List ℕ) → AreObjectsWhole files → SaysOfLog w m files before after → SaysNoMore w m files before after
no_last w m files before after whole (inl same) = inl same
no_last w m files before after whole (inr part) = inr (part.text, of_log part.active part.header part.payloads whole part.log part.lines, part.front)

-- the listing of a store stopped, and then the last line was said in part
pub stopped_part : (w : Choice) (m : Meaning AllOps) (files : Files) (before mid after : List ℕ) (stop : Stop) → AreObjectsWhole files → IsLogStopped files stop → SaysOfLog w m files before mid
    → (IsDamage stop → (lines : List ℕ) × AreLinesBefore w m files lines × (mid ≡ before ++ lines)) → SaysFront (stop_line stop) mid after → SaysNoMore w m files before after
stopped_part w m files before mid after stops.NotAStore whole is part damage front = absurd is
stopped_part w m files before mid after (stops.Damaged file place) whole is part damage front =
    let (lines, are, said) = damage tt in
    inr (lines ++ damaged file place, of_damage lines file place are is refl, front_behind lines (damaged file place) before mid after said front)
stopped_part w m files before mid after stops.DiskFault whole is part damage front = no_last w m files before after whole (subst (λ (s : List ℕ). SaysOfLog w m files before s) (sym (said_none mid after front)) part)
stopped_part w m files before mid after stops.SayFault whole is part damage front = no_last w m files before after whole (subst (λ (s : List ℕ). SaysOfLog w m files before s) (sym (said_none mid after front)) part)
stopped_part w m files before mid after stops.Memory whole is part damage front = no_last w m files before after whole (subst (λ (s : List ℕ). SaysOfLog w m files before s) (sym (said_none mid after front)) part)

-- no store was found, and then the last line was said in part
pub unopened_part : (w : Choice) (m : Meaning AllOps) (files : Files) (before mid after : List ℕ) (stop : Stop) → IsStopped files stop → (IsDamage stop → (place : ℕ) × IsFirstObjectsFault (files Objects) place) → mid ≡ before
    → SaysFront (stop_line stop) mid after → SaysNoMore w m files before after
unopened_part w m files before mid after stops.NotAStore is damage same front = inr (not_a_store, no_store is refl, front_at not_a_store not_a_store before mid after refl same front)
unopened_part w m files before mid after (stops.Damaged file place) is damage same front =
    let (at, fault) = damage tt in
    inr (damaged file place, of_damage [] file place (of_objects at fault refl) is refl, front_at (damaged file place) (damaged file place) before mid after refl same front)
unopened_part w m files before mid after stops.DiskFault is damage same front = inl (said_none mid after front ∙ same)
unopened_part w m files before mid after stops.SayFault is damage same front = inl (said_none mid after front ∙ same)
unopened_part w m files before mid after stops.Memory is damage same front = inl (said_none mid after front ∙ same)
