-- What is said of a log, of all of it or of a part.
use Rattle.std.specs.Prelude.{◌≡◌, ◌⊎◌, ⊤, ◌+◌, ℕ, All, List, [], ◌∷◌, ◌++◌, drop, length, map}
use Rattle.disk_model.specs.Disk.{Files, SaysFront}
use Rattle.disk_model.specs.declared.machine.FileNo.{FileNo}
use Rattle.disk_model.specs.declared.machine.FileNo.TheVariants.{Objects}
use Rattle.oper_core.specs.Meaning.{Meaning}
use Rattle.op_codec.specs.AllOps.{AllOps, all_meaning}
use Rattle.formats.specs.Bytes.{IsClosedAt}
use Rattle.formats.specs.FirstFault.{AreObjectsWhole, IsDamaged, IsFirstLogFault, IsFirstObjectsFault}
use Rattle.formats.specs.InForce.{HoldsLog}
use Rattle.formats.specs.Log.{Header, end_of}
use Rattle.formats.specs.Records.{IsRecord, payload_of, records_of}
use Rattle.formats.specs.declared.record.Record.{Record}
use Rattle.log_blocks.specs.Forcing.{with_block}
use Rattle.redo_log.specs.Unreadable.{HasNoRecord, IsUnreadable}
use Rattle.redo_log.specs.Lines.{begun_lines, blocks_lines, frame_line, header_words, line, log_lines, record_lines, used}
use Rattle.tool_output.specs.Lines.{damaged, not_a_store}
use Rattle.tool_output.specs.declared.stop.Stop.{Stop}
use Rattle.tool_output.specs.declared.stop.Stop.TheVariants as stops
use Rattle.redo_log.specs.declared.choice.Choice.{Choice}

-- of a payload that goes on with so many bytes some records stand next, and a front of their lines was said
pub record SaysSomeRecords (w : Choice) (m : Meaning AllOps) (file : FileNo) (count : ℕ) (all passed : List (List ℕ)) (taken : List ℕ) (later : List (List ℕ)) (before after : List ℕ) : Type 0 where
  pub part : List (Record AllOps)
  pub rest : List ℕ
  pub in_grammar : All (IsRecord m) part
  pub here : all ≡ with_block passed (taken ++ (payload_of m part ++ rest)) ++ later
  pub long : length (payload_of m part ++ rest) ≡ count
  pub front : SaysFront (record_lines w m file (end_of passed + 5 + length taken) part) before after

-- in a block some records stand first, and a front of its line and of theirs was said
pub record SaysSomeOfBlock (w : Choice) (m : Meaning AllOps) (file : FileNo) (all passed later : List (List ℕ)) (before after : List ℕ) : Type 0 where
  pub part : List (Record AllOps)
  pub rest : List ℕ
  pub in_grammar : All (IsRecord m) part
  pub here : all ≡ passed ++ (payload_of m part ++ rest) ∷ later
  pub front : SaysFront (begun_lines w m file (end_of passed) (payload_of m part ++ rest) part) before after

-- the lines of a log's first blocks, or of these and of the first records of the next block
pub data AreFirstLines (w : Choice) (m : Meaning AllOps) (file : FileNo) (payloads : List (List ℕ)) (text : List ℕ) : Type 0 where
  to_block : (groups : List (List (Record AllOps))) (later : List (List ℕ)) → All (IsRecord m) (records_of groups) → payloads ≡ map (payload_of m) groups ++ later → text ≡ blocks_lines w m file 33 groups
      → AreFirstLines w m file payloads text
  to_record : (groups : List (List (Record AllOps))) (part : List (Record AllOps)) (rest : List ℕ) (later : List (List ℕ)) → All (IsRecord m) (records_of groups) → All (IsRecord m) part
      → payloads ≡ map (payload_of m) groups ++ (payload_of m part ++ rest) ∷ later
      → text ≡ blocks_lines w m file 33 groups ++ begun_lines w m file (end_of (map (payload_of m) groups)) (payload_of m part ++ rest) part → AreFirstLines w m file payloads text

-- the lines of a log: all of them; or its header and the first ones behind it
pub data AreLogLines (w : Choice) (m : Meaning AllOps) (files : Files) (active : FileNo) (header : Header) (payloads : List (List ℕ)) (text : List ℕ) : Type 0 where
  all_lines : (groups : List (List (Record AllOps))) → All (IsRecord m) (records_of groups) → payloads ≡ map (payload_of m) groups
      → text ≡ log_lines w m active header groups (used (drop (end_of payloads) (files active))) → AreLogLines w m files active header payloads text
  first_lines : (lines : List ℕ) → AreFirstLines w m active payloads lines → text ≡ frame_line w active 0 33 (header_words header) ++ lines → AreLogLines w m files active header payloads text

-- a front of the lines of the log in force was said
pub record SaysLogPart (w : Choice) (m : Meaning AllOps) (files : Files) (before after : List ℕ) : Type 0 where
  pub active : FileNo
  pub header : Header
  pub payloads : List (List ℕ)
  pub log : HoldsLog active header payloads files
  pub text : List ℕ
  pub lines : AreLogLines w m files active header payloads text
  pub front : SaysFront text before after

-- nothing else was said
abbrev pub SaysOfLog : Choice → Meaning AllOps → Files → List ℕ → List ℕ → Type 0
SaysOfLog w m files before after = (after ≡ before) ⊎ SaysLogPart w m files before after

-- Bytes that are no record.

-- no record begins with the bytes that were not taken, and nothing was said
pub record SaysNone (m : Meaning AllOps) (count : ℕ) (all passed : List (List ℕ)) (taken : List ℕ) (later : List (List ℕ)) (before after : List ℕ) : Type 0 where
  pub behind : HasNoRecord m all passed taken later
  pub long : length behind.rest ≡ count
  pub silent : after ≡ before

-- a block was said to the first bytes of it that are no record
pub record SaysBlockToNone (w : Choice) (m : Meaning AllOps) (file : FileNo) (all passed later : List (List ℕ)) (before after : List ℕ) : Type 0 where
  pub is : IsUnreadable m all passed later
  pub said : after ≡ before ++ begun_lines w m file (end_of passed) (payload_of m is.part ++ is.behind.rest) is.part

-- the lines of a log's blocks to the first bytes of them that are no record
pub record AreLinesToNone (w : Choice) (m : Meaning AllOps) (file : FileNo) (payloads : List (List ℕ)) (text : List ℕ) : Type 0 where
  pub groups : List (List (Record AllOps))
  pub later : List (List ℕ)
  pub in_grammar : All (IsRecord m) (records_of groups)
  pub is : IsUnreadable m payloads (map (payload_of m) groups) later
  pub text_is : text ≡ blocks_lines w m file 33 groups ++ begun_lines w m file (end_of (map (payload_of m) groups)) (payload_of m is.part ++ is.behind.rest) is.part

-- What is said of damaged files before the damage: nothing, where it is one of the objects file or of a log's header or blocks;
-- all lines of the log, where each record is one by itself; else those of the records before the first bytes that are none. Of the
-- log something is said only where the objects file by itself has no fault.
pub data AreLinesBefore (w : Choice) (m : Meaning AllOps) (files : Files) (text : List ℕ) : Type 0 where
  of_objects : (place : ℕ) → IsFirstObjectsFault (files Objects) place → text ≡ [] → AreLinesBefore w m files text
  of_logs : (file : FileNo) (place : ℕ) → AreObjectsWhole files → IsFirstLogFault files file place → text ≡ [] → AreLinesBefore w m files text
  of_places : (active : FileNo) (header : Header) (groups : List (List (Record AllOps))) → AreObjectsWhole files → HoldsLog active header (map (payload_of m) groups) files → All (IsRecord m) (records_of groups)
      → text ≡ log_lines w m active header groups (used (drop (end_of (map (payload_of m) groups)) (files active))) → AreLinesBefore w m files text
  of_records : (active : FileNo) (header : Header) (payloads : List (List ℕ)) (lines : List ℕ) → AreObjectsWhole files → HoldsLog active header payloads files → AreLinesToNone w m active payloads lines
      → text ≡ frame_line w active 0 33 (header_words header) ++ lines → AreLinesBefore w m files text

-- it reports damage
abbrev pub IsDamage : Stop → Type 0
IsDamage (stops.Damaged file place) = ⊤
IsDamage stop = ⊥

-- the files break their format at this place, which the last line says
pub record IsDamageSaid (w : Choice) (m : Meaning AllOps) (files : Files) (before after : List ℕ) : Type 0 where
  pub file : FileNo
  pub place : ℕ
  pub is : IsDamaged all_meaning files file place
  pub lines : List ℕ
  pub lines_are : AreLinesBefore w m files lines
  pub said : after ≡ before ++ lines ++ damaged file place

-- what is said of files: that they are no store; lines of the log; or the lines before a damage, and the damage
pub data IsReport (w : Choice) (m : Meaning AllOps) (files : Files) (text : List ℕ) : Type 0 where
  no_store : IsClosedAt 0 (files Objects) → text ≡ not_a_store → IsReport w m files text
  of_log : (active : FileNo) (header : Header) (payloads : List (List ℕ)) → AreObjectsWhole files → HoldsLog active header payloads files → AreLogLines w m files active header payloads text → IsReport w m files text
  of_damage : (lines : List ℕ) (file : FileNo) (place : ℕ) → AreLinesBefore w m files lines → IsDamaged all_meaning files file place → text ≡ lines ++ damaged file place → IsReport w m files text

-- nothing else was said than a front of it
abbrev pub SaysNoMore : Choice → Meaning AllOps → Files → List ℕ → List ℕ → Type 0
SaysNoMore w m files before after = (after ≡ before) ⊎ ((text : List ℕ) × IsReport w m files text × SaysFront text before after)
