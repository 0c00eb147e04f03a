-- How many records of each kind a log has, of those that are all that is asked, and how many bytes their codes have.
use Rattle.std.specs.Prelude.{◌≡◌, ◌⊎◌, ◌<◌, ◌+◌, ◌-◌, ◌^◌, ◌==◌, ◌&&◌, ℕ, Bool, if◌then◌else◌, nat_eq, min, All, List, [], ◌∷◌, ◌++◌, get_or, length, map, None, Some}
use Rattle.std.specs.List.{filter}
use Rattle.disk_model.specs.Disk.{Files, SaysFront}
use Rattle.disk_model.specs.declared.machine.FileNo.{FileNo}
use Rattle.disk_model.specs.declared.machine.FileNo.TheVariants.{Objects}
use Rattle.oper_core.specs.Meaning.{Meaning}
use Rattle.op_codec.specs.AllOps.{AllOps, all_meaning}
use Rattle.formats.specs.Bytes.{IsClosedAt}
use Rattle.formats.specs.FirstFault.{IsDamaged}
use Rattle.formats.specs.Log.{Header}
use Rattle.formats.specs.Records.{HoldsRecordLog, IsRecord, payload_of, records_of}
use Rattle.formats.specs.declared.record.Record.{Record}
use Rattle.log_blocks.specs.Payloads.{PayloadReaderView}
use Rattle.script_lines.specs.Replies.{spaced}
use Rattle.tool_output.specs.Lines.{damaged, not_a_store}
use Rattle.redo_log.specs.Choosing.{admits}
use Rattle.redo_log.specs.Kinds.{kind_of, kind_words}
use Rattle.redo_log.specs.Listing.{meaning_of}
use Rattle.redo_log.specs.Reading.{SaysBlock, SaysBlocks, SaysRecord}
use Rattle.redo_log.specs.declared.choice.Choice.{Choice}

-- a record is all that is asked, and of the kind with this number
abbrev pub is_counted : Choice → Meaning AllOps → ℕ → Record AllOps → Bool
is_counted w m k r = admits w m r && kind_of r == k

-- a number, as far as 64 bits have it
abbrev pub capped : ℕ → ℕ
capped n = min n (2 ^ 64 - 1)

-- how many of the records that is, and how many bytes their codes have
abbrev pub numbers_of : Choice → Meaning AllOps → ℕ → List (Record AllOps) → ℕ × ℕ
numbers_of w m k records =
    let those = filter (is_counted w m k) records in
    (capped (length those), capped (length (payload_of m those)))

-- the line of a kind: its word and these numbers; none where there is no such record
abbrev pub kind_line : List ℕ → ℕ × ℕ → List ℕ
kind_line word numbers = if nat_eq numbers.0 0 then [] else word ++ spaced numbers.0 ++ spaced numbers.1 ++ 10 ∷ []

-- the lines of kinds with these words, from this number on
abbrev pub lines_from : Choice → Meaning AllOps → List (Record AllOps) → ℕ → List (List ℕ) → List ℕ
lines_from w m records k [] = []
lines_from w m records k (word ∷ words) = kind_line word (numbers_of w m k records) ++ lines_from w m records (k + 1) words

-- those of all kinds
abbrev pub table : Choice → Meaning AllOps → List (Record AllOps) → List ℕ
table w m records = lines_from w m records 0 kind_words

-- a tally has the numbers of each kind
pub record IsTally (w : Choice) (m : Meaning AllOps) (records : List (Record AllOps)) (tally : List (ℕ × ℕ)) : Type 0 where
  pub kinds : length tally ≡ length kind_words
  pub each : (k : ℕ) → k < length kind_words → get_or tally k (0, 0) ≡ numbers_of w m k records

-- a tally of some records is now one of these too
abbrev pub Tallies : Choice → Meaning AllOps → List (Record AllOps) → List (ℕ × ℕ) → List (ℕ × ℕ) → Type 0
Tallies w m more old new = (records : List (Record AllOps)) → IsTally w m records old → IsTally w m (records ++ more) new

-- of the log in force a tally was made
pub record HasTally (w : Choice) (files : Files) (tally : List (ℕ × ℕ)) : Type 0 where
  pub active : FileNo
  pub header : Header
  pub groups : List (List (Record AllOps))
  pub log : HoldsRecordLog (meaning_of files) active header groups files
  pub is : IsTally w (meaning_of files) (records_of groups) tally

-- the lines of the log in force in these files
pub record IsTable (w : Choice) (files : Files) (text : List ℕ) : Type 0 where
  pub active : FileNo
  pub header : Header
  pub groups : List (List (Record AllOps))
  pub log : HoldsRecordLog (meaning_of files) active header groups files
  pub text_is : text ≡ table w (meaning_of files) (records_of groups)

-- what is said of files: that they are no store; these lines; or the place of a damage
pub data IsTallyReport (w : Choice) (files : Files) (text : List ℕ) : Type 0 where
  no_store : IsClosedAt 0 (files Objects) → text ≡ not_a_store → IsTallyReport w files text
  of_table : IsTable w files text → IsTallyReport w files text
  of_damage : (file : FileNo) (place : ℕ) → IsDamaged all_meaning files file place → text ≡ damaged file place → IsTallyReport w files text

-- nothing else was said than a front of it
abbrev pub SaysTallyPart : Choice → Files → List ℕ → List ℕ → Type 0
SaysTallyPart w files before after = (after ≡ before) ⊎ ((text : List ℕ) × IsTallyReport w files text × SaysFront text before after)

-- The tally is made as a log is read of which no line is said.

-- no record is this
abbrev pub nothing : Choice
nothing = record { from = Some 1; to = Some 0; object = None; kind = None }

-- one record was taken, and counted
pub record CountsRecord (w : Choice) (m : Meaning AllOps) (file : List ℕ) (old new : PayloadReaderView) (all passed : List (List ℕ)) (taken : List ℕ) (later : List (List ℕ)) (before after : List ℕ) (tally more : List (ℕ × ℕ)) : Type 0 where
  pub read : SaysRecord nothing m file old new all passed taken later before after
  pub counted : Tallies w m (read.it ∷ []) tally more

-- those of a block
pub record CountsBlock (w : Choice) (m : Meaning AllOps) (file : List ℕ) (old new : PayloadReaderView) (all passed later : List (List ℕ)) (before after : List ℕ) (tally more : List (ℕ × ℕ)) : Type 0 where
  pub read : SaysBlock nothing m file old new all passed later before after
  pub counted : Tallies w m read.group tally more

-- those of all blocks
pub record CountsBlocks (w : Choice) (m : Meaning AllOps) (it : PayloadReaderView) (all : List (List ℕ)) (before after : List ℕ) (tally more : List (ℕ × ℕ)) : Type 0 where
  pub read : SaysBlocks nothing m it all before after
  pub counted : Tallies w m (records_of read.groups) tally more

-- those of a log with these payloads
pub record CountsLog (w : Choice) (m : Meaning AllOps) (payloads : List (List ℕ)) (tally more : List (ℕ × ℕ)) : Type 0 where
  pub groups : List (List (Record AllOps))
  pub in_grammar : All (IsRecord m) (records_of groups)
  pub payloads_are : payloads ≡ map (payload_of m) groups
  pub counted : Tallies w m (records_of groups) tally more
