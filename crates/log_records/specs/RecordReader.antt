-- How far a reader has come in the records of a log.
use Rattle.std.specs.Prelude.{◌≡◌, ℕ, Bool, true, false, Option, None, Some, List, [], ◌∷◌, ◌++◌, map}
use Rattle.disk_model.specs.Disk.{Files, Disk}
use Rattle.oper_core.specs.Meaning.{Meaning}
use Rattle.oper_core.specs.declared.bounds.Bounds.{Bounds}
use Rattle.formats.specs.Log.{IsWholeLog}
use Rattle.formats.specs.Records.{payload_of, records_of, next_after, IsPlaced, AreRecords}
use Rattle.formats.specs.declared.record.Record.{Record}
use Rattle.log_blocks.specs.LogView.{LogView}
use Rattle.log_blocks.specs.Payloads.{PayloadReaderView, IsInLog}
use Rattle.log_records.specs.Codec.{StartsWithRecord, AreShort}

-- a reader of records
pub record RecordReaderView : Type 0 where
  pub bounds : Bounds
  -- the number of the log's first numbered record
  pub base : ℕ
  -- the number of the next one
  pub next : ℕ
  pub payloads : PayloadReaderView

-- Of a log of these payloads these records were read: those of some groups, which are a payload each, and then some of the
-- payload in hand, of which no more bytes were taken.
pub record AreFirst {O : Type 0} (m : Meaning O) (file : List ℕ) (it : RecordReaderView) (payloads : List (List ℕ)) (records : List (Record O)) : Type 0 where
  pub groups : List (List (Record O))
  pub part : List (Record O)
  pub later : List (List ℕ)
  pub stands : IsInLog file it.payloads payloads (map (payload_of m) groups) (payload_of m part) later
  pub records_are : records ≡ records_of groups ++ part

-- A reader of this log has read these records: they are right in their places, the next LSN is that after them, and
-- each goes into a block. In files that agree with what was read and in which the log is whole, they are its first ones.
pub record IsReading {O : Type 0} (m : Meaning O) (d : Disk) (log : LogView) (it : RecordReaderView) (records : List (Record O)) : Type 0 where
  pub file : it.payloads.file ≡ log.active
  pub base : it.base ≡ log.header.base
  pub placed : AreRecords m log.header.base log.header.base records
  pub next_is : it.next ≡ next_after log.header.base records
  pub short : AreShort m records
  pub read : (files : Files) → d.agrees files → (payloads : List (List ℕ)) → IsWholeLog log.header payloads (files log.active) → AreFirst m (files log.active) it payloads records

-- the payloads are those of these records, a group for each
pub record AreGroups {O : Type 0} (m : Meaning O) (payloads : List (List ℕ)) (records : List (Record O)) : Type 0 where
  pub groups : List (List (Record O))
  pub payloads_are : payloads ≡ map (payload_of m) groups
  pub records_are : records ≡ records_of groups

-- A pass over this log has read these records: they are right in their places, and each goes into a block. In files
-- that agree with what was read and in which the log is whole, they are all of its records.
pub record AreAll {O : Type 0} (m : Meaning O) (d : Disk) (log : LogView) (records : List (Record O)) : Type 0 where
  pub placed : AreRecords m log.header.base log.header.base records
  pub short : AreShort m records
  pub read : (files : Files) → d.agrees files → (payloads : List (List ℕ)) → IsWholeLog log.header payloads (files log.active) → AreGroups m payloads records

-- no record that is right where this LSN is next begins the bytes
abbrev pub StartsWithNone : {O : Type 0} → Meaning O → ℕ → ℕ → List ℕ → Type 0
StartsWithNone {O = O} m base next bytes = (other : Record O) → StartsWithRecord m bytes other → IsPlaced m base next other → ⊥

-- these are all records, up to the reader's next LSN
abbrev pub HasEnded : {O : Type 0} → Meaning O → Disk → LogView → RecordReaderView → List (Record O) → Type 0
HasEnded m d log it records = AreAll m d log records × (it.next ≡ next_after log.header.base records)

-- where a reader that had read these records looked for more bytes: there are some, or these are all records
abbrev pub HasGoneOn : {O : Type 0} → Meaning O → Disk → LogView → RecordReaderView → List (Record O) → Bool → Type 0
HasGoneOn m d log it records true = IsReading m d log it records
HasGoneOn m d log it records false = HasEnded m d log it records

-- what a reader that had read these records found: one more, or that these are all
abbrev pub HasFound : {O : Type 0} → Meaning O → Disk → LogView → RecordReaderView → List (Record O) → Option (Record O) → Type 0
HasFound m d log it records None = HasEnded m d log it records
HasFound m d log it records (Some found) = IsReading m d log it (records ++ found ∷ [])
