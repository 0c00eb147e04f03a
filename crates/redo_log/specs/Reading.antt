-- What of a log was said.
use Rattle.std.specs.Prelude.{◌≡◌, ◌+◌, ℕ, All, List, ◌++◌, length, map}
use Rattle.oper_core.specs.Meaning.{Meaning}
use Rattle.op_codec.specs.AllOps.{AllOps}
use Rattle.formats.specs.Log.{end_of}
use Rattle.formats.specs.Records.{IsRecord, payload_of, record_code, records_of}
use Rattle.formats.specs.declared.record.Record.{Record}
use Rattle.log_blocks.specs.Payloads.{PayloadReaderView, IsInLog, remaining}
use Rattle.redo_log.specs.Lines.{block_lines, blocks_lines, line, record_line}
use Rattle.redo_log.specs.declared.choice.Choice.{Choice}

-- of the payload in hand, of which these bytes were taken, one record was taken more, and its line was said
pub record SaysRecord (w : Choice) (m : Meaning AllOps) (file : List ℕ) (old new : PayloadReaderView) (all passed : List (List ℕ)) (taken : List ℕ) (later : List (List ℕ)) (before after : List ℕ) : Type 0 where
  pub it : Record AllOps
  pub in_grammar : IsRecord m it
  pub stands : IsInLog file new all passed (taken ++ record_code m it) later
  pub count : remaining new + length (record_code m it) ≡ remaining old
  pub said : after ≡ before ++ record_line w m old.file (end_of passed + 5 + length taken) (length (record_code m it)) it

-- all records of the payload in hand were taken, and the lines of its block were said
pub record SaysBlock (w : Choice) (m : Meaning AllOps) (file : List ℕ) (old new : PayloadReaderView) (all passed later : List (List ℕ)) (before after : List ℕ) : Type 0 where
  pub group : List (Record AllOps)
  pub in_grammar : All (IsRecord m) group
  pub stands : IsInLog file new all passed (payload_of m group) later
  pub count : length (payload_of m group) ≡ remaining old
  pub said : after ≡ before ++ block_lines w m old.file (end_of passed) group

-- these payloads are those of groups of records, whose lines were said
pub record SaysBlocks (w : Choice) (m : Meaning AllOps) (it : PayloadReaderView) (all : List (List ℕ)) (before after : List ℕ) : Type 0 where
  pub groups : List (List (Record AllOps))
  pub in_grammar : All (IsRecord m) (records_of groups)
  pub all_are : all ≡ map (payload_of m) groups
  pub said : after ≡ before ++ blocks_lines w m it.file 33 groups
