-- The lines of a log: each says the file, a place in it, how many bytes stand there, and what they are. Those of records are said that are
-- all that is asked; those of the header, of blocks and of the end where nothing is.
use Rattle.std.specs.Prelude.{ℕ, Bool, ◌+◌, ◌++◌, suc, nat_eq, if◌then◌else◌, List, [], ◌∷◌, codes, length, map}
use Rattle.std.specs.Fmt.{decimal}
use Rattle.std.specs.List.{flat_map}
use Rattle.disk_model.specs.declared.machine.FileNo.{FileNo}
use Rattle.oper_core.specs.Meaning.{Meaning}
use Rattle.op_codec.specs.AllOps.{AllOps}
use Rattle.formats.specs.Log.{Header, end_of}
use Rattle.formats.specs.Records.{payload_of, record_code}
use Rattle.formats.specs.declared.record.Record.{Record}
use Rattle.formats.specs.declared.record.Record.TheVariants.{Command, Identity, Checkpoint}
use Rattle.script_lines.specs.Replies.{spaced}
use Rattle.tool_output.specs.Lines.{name_of_file}
use Rattle.redo_log.specs.Choosing.{admits, is_all}
use Rattle.redo_log.specs.Words.{op_words}
use Rattle.redo_log.specs.declared.choice.Choice.{Choice}

-- a line
abbrev pub line : FileNo → ℕ → ℕ → List ℕ → List ℕ
line file place count what = name_of_file file ++ spaced place ++ spaced count ++ 32 ∷ what ++ 10 ∷ []

abbrev pub header_words : Header → List ℕ
header_words h = codes "header epoch" ++ spaced h.epoch ++ codes " base" ++ spaced h.base ++ codes " commands" ++ spaced h.commands

-- an object of a checkpoint, and where its redo starts
abbrev pub start_words : ℕ × ℕ → List ℕ
start_words s = spaced s.0 ++ 58 ∷ decimal s.1

-- a command has its operation, an identity write its object and the length of its value, a checkpoint its redo starts
abbrev pub record_words : Record AllOps → List ℕ
record_words (Command lsn op) = codes "command" ++ spaced lsn ++ 32 ∷ op_words op
record_words (Identity lsn x value) = codes "identity" ++ spaced lsn ++ codes " object" ++ spaced x ++ codes " length" ++ spaced (length value)
record_words (Checkpoint table) = codes "check" ++ spaced table.next ++ codes " starts" ++ flat_map start_words table.starts

-- a line that is said where this holds
abbrev pub line_if : Bool → FileNo → ℕ → ℕ → List ℕ → List ℕ
line_if said file place count what = if said then line file place count what else []

-- that of the header, of a block or of the end
abbrev pub frame_line : Choice → FileNo → ℕ → ℕ → List ℕ → List ℕ
frame_line w = line_if (is_all w)

-- that of a record
abbrev pub record_line : Choice → Meaning AllOps → FileNo → ℕ → ℕ → Record AllOps → List ℕ
record_line w m file place count r = line_if (admits w m r) file place count (record_words r)

-- the lines of records, the first of which stands at this place
abbrev pub record_lines : Choice → Meaning AllOps → FileNo → ℕ → List (Record AllOps) → List ℕ
record_lines w m file place [] = []
record_lines w m file place (r ∷ records) = record_line w m file place (length (record_code m r)) r ++ record_lines w m file (place + length (record_code m r)) records

-- those of a block and of its records
abbrev pub block_lines : Choice → Meaning AllOps → FileNo → ℕ → List (Record AllOps) → List ℕ
block_lines w m file place group = frame_line w file place (length (payload_of m group)) (codes "block") ++ record_lines w m file (place + 5) group

-- those of a block with this payload, and of the records that stand first in it
abbrev pub begun_lines : Choice → Meaning AllOps → FileNo → ℕ → List ℕ → List (Record AllOps) → List ℕ
begun_lines w m file place payload part = frame_line w file place (length payload) (codes "block") ++ record_lines w m file (place + 5) part

-- those of blocks, the first of which stands at this place
abbrev pub blocks_lines : Choice → Meaning AllOps → FileNo → ℕ → List (List (Record AllOps)) → List ℕ
blocks_lines w m file place [] = []
blocks_lines w m file place (group ∷ groups) = block_lines w m file place group ++ blocks_lines w m file (place + (5 + length (payload_of m group))) groups

-- how many bytes there are up to the last one that isn't 0
abbrev pub used : List ℕ → ℕ
used [] = 0
used (byte ∷ bytes) = if nat_eq (byte + used bytes) 0 then 0 else suc (used bytes)

-- the lines of a log: its header, its blocks, a group of records each, and where it ends, with the bytes that a torn force left there
abbrev pub log_lines : Choice → Meaning AllOps → FileNo → Header → List (List (Record AllOps)) → ℕ → List ℕ
log_lines w m file header groups left =
    frame_line w file 0 33 (header_words header) ++ blocks_lines w m file 33 groups ++ frame_line w file (end_of (map (payload_of m) groups)) left (codes "end")
