-- How far a reader has come in the blocks of a log.
use Rattle.std.specs.Prelude.{◌≡◌, ℕ, Bool, true, false, Option, None, Some, List, [], ◌∷◌, ◌++◌, filter, map}
use Rattle.disk_model.specs.Disk.{Files, Disk}
use Rattle.oper_core.specs.Meaning.{Meaning}
use Rattle.formats.specs.Log.{IsWholeLog}
use Rattle.formats.specs.Records.{payload_of, record_code, records_of, AreRecords}
use Rattle.formats.specs.declared.record.Record.{Record}
use Rattle.log_blocks.specs.LogView.{LogView}
use Rattle.log_blocks.specs.Payloads.{PayloadReaderView, IsInLog}
use Rattle.log_records.specs.Codec.{AreShort}
use Rattle.log_records.specs.RecordReader.{RecordReaderView, IsReading}
use Rattle.log_records.specs.Rewriting.{from_lsn}

-- a reader of what blocks have from an LSN on
pub record BlockReaderView : Type 0 where
  pub records : RecordReaderView
  pub from : ℕ

-- there are some
abbrev pub is_some_list : {A : Type 0} → List A → Bool
is_some_list [] = false
is_some_list (x ∷ xs) = true

-- of each block the commands and identity writes from an LSN on, but for blocks that have none
abbrev pub blocks_from : {O : Type 0} → ℕ → List (List (Record O)) → List (List (Record O))
blocks_from from groups = filter is_some_list (map (from_lsn from) groups)

-- the payloads of blocks of these
abbrev pub payloads_from : {O : Type 0} → Meaning O → ℕ → List (List (Record O)) → List (List ℕ)
payloads_from m from groups = map (payload_of m) (blocks_from from groups)

-- Where a reader that stands in the log of these payloads, has passed some and has taken these bytes of the next one, looked for more
-- bytes: there it stands still, and there are some, or it has passed all.
abbrev pub GoesOn : List ℕ → PayloadReaderView → List (List ℕ) → List (List ℕ) → List ℕ → Bool → Type 0
GoesOn file it payloads passed taken true = (rest : List (List ℕ)) × IsInLog file it payloads passed taken rest
GoesOn file it payloads passed taken false = payloads ≡ passed

-- Where it took a record: the record's code comes after the bytes that it has taken; or it has passed all.
abbrev pub TakesRecord : {O : Type 0} → Meaning O → List ℕ → PayloadReaderView → List (List ℕ) → List (List ℕ) → List ℕ → Option (Record O) → Type 0
TakesRecord m file it payloads passed taken None = payloads ≡ passed
TakesRecord m file it payloads passed taken (Some r) = (rest : List (List ℕ)) × IsInLog file it payloads passed (taken ++ record_code m r) rest

-- A reader of this log has read the records of these groups, which are a block each, and then these of the next block. In files
-- that agree with what was read and in which the log is whole, it stands behind them.
pub record IsReadingIn {O : Type 0} (m : Meaning O) (d : Disk) (log : LogView) (it : RecordReaderView) (groups : List (List (Record O))) (part : List (Record O)) : Type 0 where
  pub reading : IsReading m d log it (records_of groups ++ part)
  pub stands : (files : Files) → d.agrees files → (payloads : List (List ℕ)) → IsWholeLog log.header payloads (files log.active)
      → (later : List (List ℕ)) × IsInLog (files log.active) it.payloads payloads (map (payload_of m) groups) (payload_of m part) later

-- a reader of blocks of this log has given these payloads, each of a block, and stands between two blocks
pub record IsReadingBlocks {O : Type 0} (m : Meaning O) (d : Disk) (log : LogView) (it : BlockReaderView) (given : List (List ℕ)) : Type 0 where
  pub groups : List (List (Record O))
  pub given_are : given ≡ payloads_from m it.from groups
  pub reading : IsReadingIn m d log it.records groups []

-- These payloads are all that a log has from this LSN on, each of a block. In files that agree with what was read and in which the
-- log is whole, the groups are those of its blocks.
pub record AreAllBlocks {O : Type 0} (m : Meaning O) (d : Disk) (log : LogView) (from : ℕ) (given : List (List ℕ)) : Type 0 where
  pub groups : List (List (Record O))
  pub given_are : given ≡ payloads_from m from groups
  pub placed : AreRecords m log.header.base log.header.base (records_of groups)
  pub short : AreShort m (records_of groups)
  pub read : (files : Files) → d.agrees files → (payloads : List (List ℕ)) → IsWholeLog log.header payloads (files log.active) → payloads ≡ map (payload_of m) groups

-- what a reader that had given these payloads gave: one more, or these are all, and then no byte
abbrev pub HasGivenBlock : {O : Type 0} → Meaning O → Disk → LogView → BlockReaderView → List (List ℕ) → List ℕ → Bool → Type 0
HasGivenBlock m d log it given payload true = IsReadingBlocks m d log it (given ++ payload ∷ [])
HasGivenBlock m d log it given payload false = AreAllBlocks m d log it.from given × (payload ≡ [])
