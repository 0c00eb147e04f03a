-- What is said of the log of a store.
use Rattle.std.specs.Prelude.{◌≡◌, ℕ, All, List, ◌++◌, drop, map}
use Rattle.disk_model.specs.Disk.{Files}
use Rattle.disk_model.specs.declared.machine.FileNo.{FileNo}
use Rattle.disk_model.specs.declared.machine.FileNo.TheVariants.{Objects}
use Rattle.oper_core.specs.Meaning.{Meaning}
use Rattle.op_codec.specs.AllOps.{AllOps, all_meaning}
use Rattle.formats.specs.InForce.{HoldsLog}
use Rattle.formats.specs.Log.{Header, end_of}
use Rattle.formats.specs.Objects.{bounds_of, params_in}
use Rattle.formats.specs.Records.{HoldsRecordLog, IsRecord, payload_of, records_of}
use Rattle.formats.specs.declared.record.Record.{Record}
use Rattle.redo_log.specs.Lines.{log_lines, used}
use Rattle.redo_log.specs.declared.choice.Choice.{Choice}

-- what operations mean in the store of these files
abbrev pub meaning_of : Files → Meaning AllOps
meaning_of files = all_meaning (bounds_of (params_in (files Objects)))

-- the lines of the log in force in these files were said, with all of its records
pub record IsListed (w : Choice) (files : Files) (before after : List ℕ) : Type 0 where
  pub active : FileNo
  pub header : Header
  pub groups : List (List (Record AllOps))
  pub log : HoldsRecordLog (meaning_of files) active header groups files
  pub said : after ≡ before ++ log_lines w (meaning_of files) active header groups (used (drop (end_of (map (payload_of (meaning_of files)) groups)) (files active)))

-- records of the grammar that are those of the log in force are right in their places
abbrev pub ArePlaced : {O : Type 0} → Meaning O → Files → Type 0
ArePlaced {O = O} m files = (active : FileNo) (header : Header) (groups : List (List (Record O))) → HoldsLog active header (map (payload_of m) groups) files → All (IsRecord m) (records_of groups)
    → HoldsRecordLog m active header groups files

-- the payloads of the log in this file are those of groups of records, whose lines were said
pub record SaysLog (w : Choice) (m : Meaning AllOps) (files : Files) (active : FileNo) (header : Header) (payloads : List (List ℕ)) (before after : List ℕ) : Type 0 where
  pub groups : List (List (Record AllOps))
  pub in_grammar : All (IsRecord m) (records_of groups)
  pub payloads_are : payloads ≡ map (payload_of m) groups
  pub said : after ≡ before ++ log_lines w m active header groups (used (drop (end_of payloads) (files active)))
