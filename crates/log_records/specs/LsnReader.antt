-- How far a reader has come in the commands and identity writes of a log.
use Rattle.std.specs.Prelude.{◌≡◌, ◌≢◌, ℕ, Option, None, Some, is_some, List, [], ◌∷◌, ◌++◌}
use Rattle.std.specs.Option.{option_to_list}
use Rattle.disk_model.specs.Disk.{Disk}
use Rattle.disk_model.specs.declared.machine.FileNo.TheVariants.{Objects}
use Rattle.oper_core.specs.Meaning.{Meaning}
use Rattle.formats.specs.Records.{next_after, AreRecords}
use Rattle.formats.specs.declared.record.Record.{Record}
use Rattle.log_blocks.specs.LogView.{LogView}
use Rattle.log_blocks.specs.Payloads.{ahead}
use Rattle.log_records.specs.Codec.{AreShort}
use Rattle.log_records.specs.RecordLog.{RecordLogView}
use Rattle.log_records.specs.RecordReader.{RecordReaderView, IsReading, AreAll, HasGoneOn}
use Rattle.log_records.specs.Rewriting.{between_lsns}

-- a reader of the records with an LSN from one LSN on and below another
pub record LsnReaderView : Type 0 where
  pub records : RecordReaderView
  pub from : ℕ
  pub end : ℕ

-- how many bytes of the log's file it has not taken
abbrev pub left_of : LsnReaderView → ℕ
left_of it = ahead it.records.payloads

-- a reader of this log stands after these records, which are right in their places, and each goes into a block; nothing is
-- said of the files
pub record IsPast {O : Type 0} (m : Meaning O) (log : LogView) (it : RecordReaderView) (records : List (Record O)) : Type 0 where
  pub file : it.payloads.file ≡ log.active
  pub base : it.base ≡ log.header.base
  pub placed : AreRecords m log.header.base log.header.base records
  pub next_is : it.next ≡ next_after log.header.base records
  pub short : AreShort m records

-- A reader of this log has given these records: of those that were read, the ones from its LSN on and below the log's
-- next one. What is said of the log's file stays true where the objects file alone changes, so it is said of a log that
-- stands in another file.
pub record IsReadingFromLsn {O : Type 0} (m : Meaning O) (d : Disk) (log : RecordLogView) (it : LsnReaderView) (given : List (Record O)) : Type 0 where
  pub end : it.end ≡ log.next
  pub all : List (Record O)
  pub given_are : given ≡ between_lsns it.from it.end all
  pub past : IsPast m log.log it.records all
  pub reading : log.log.active ≢ Objects → IsReading m d log.log it.records all

-- Of some records that are right in their places, and each of which goes into a block, these are those with an LSN from this
-- LSN on and below the log's next one. Where the log is not in the objects file, those records are all that it has.
pub record AreAllFromLsn {O : Type 0} (m : Meaning O) (d : Disk) (log : RecordLogView) (from : ℕ) (given : List (Record O)) : Type 0 where
  pub all : List (Record O)
  pub given_are : given ≡ between_lsns from log.next all
  pub placed : AreRecords m log.log.header.base log.log.header.base all
  pub short : AreShort m all
  pub read : log.log.active ≢ Objects → AreAll m d log.log all

-- what a reader that had given these records found: one more, or that these are all
abbrev pub HasGiven : {O : Type 0} → Meaning O → Disk → RecordLogView → LsnReaderView → List (Record O) → Option (Record O) → Type 0
HasGiven m d log it given None = AreAllFromLsn m d log it.from given
HasGiven m d log it given (Some found) = IsReadingFromLsn m d log it (given ++ found ∷ [])

-- A search for the next record that is between two numbers has read some more: of these it is the one that was found, or
-- none is. It goes on in each log in which it began.
pub record HasSearched {O : Type 0} (m : Meaning O) (old new : Disk) (from end : ℕ) (before after : RecordReaderView) (found : Option (Record O)) : Type 0 where
  pub more : List (Record O)
  pub found_is : between_lsns from end more ≡ option_to_list found
  pub reading : (log : LogView) (all : List (Record O)) → IsReading m old log before all → HasGoneOn m new log after (all ++ more) (is_some found)
