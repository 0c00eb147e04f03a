-- What the copy of a log on another machine holds, and why it is not made.
use Rattle.std.specs.Prelude.{◌≡◌, ◌<◌, ◌≤◌, ◌^◌, ◌++◌, ⊤, ℕ, Option, List, [], ◌∷◌, length, map, IfSome}
use Rattle.std.specs.Option.{option_to_list}
use Rattle.disk_model.specs.Disk.{Files, Disk}
use Rattle.disk_model.specs.declared.machine.FileNo.{FileNo}
use Rattle.disk_model.specs.declared.machine.FileNo.TheVariants.{LogB}
use Rattle.dirty_page_table.specs.declared.table.DirtyPageTable.{DirtyPageTable}
use Rattle.oper_core.specs.Meaning.{Meaning}
use Rattle.formats.specs.Records.{payload_of, record_code, IsRecord, HoldsRecordLog}
use Rattle.formats.specs.declared.read_err.ReadErr.{ReadErr}
use Rattle.formats.specs.declared.read_err.ReadErr.TheVariants as of_read
use Rattle.formats.specs.declared.record.Record.{Record}
use Rattle.formats.specs.declared.record.Record.TheVariants.{Checkpoint}
use Rattle.log_blocks.specs.LogView.{LogView, used_of}
use Rattle.log_blocks.specs.Rewriting.{file_length, second_header}
use Rattle.log_records.specs.Copying.{IsPlanned}
use Rattle.log_records.specs.Measuring.{block_lengths}
use Rattle.log_records.specs.RecordLog.{RecordLogView, Keeps}
use Rattle.log_records.specs.Rewriting.{code_lengths, in_full_blocks, from_lsn}
use Rattle.log_records.specs.declared.copy_err.CopyErr.{CopyErr}
use Rattle.log_records.specs.declared.copy_err.CopyErr.TheVariants.{LogFull, DiskFault, TargetFault, Damaged, Memory}
use Rattle.log_records.specs.declared.measured.Measured.{Measured}
use Rattle.log_records.specs.declared.new_log.NewLog.{NewLog}
use Rattle.log_records.specs.declared.put_err.PutErr.{PutErr}
use Rattle.log_records.specs.declared.put_err.PutErr.TheVariants as put_err

-- the checkpoint that a log has from this base on which has no record with an LSN: no redo starts
abbrev pub empty_checkpoint : ℕ → DirtyPageTable
empty_checkpoint base = record { next = base; starts = [] }

-- these records, or, where there is none, that checkpoint
abbrev pub or_checkpoint : {O : Type 0} → ℕ → List (Record O) → List (Record O)
or_checkpoint base [] = Checkpoint (empty_checkpoint base) ∷ []
or_checkpoint base (r ∷ records) = r ∷ records

-- the records of the copy of a log with this base and these records: its commands and identity writes, and no checkpoint of its own
abbrev pub copied_records : {O : Type 0} → ℕ → List (Record O) → List (Record O)
copied_records base records = or_checkpoint base (from_lsn base records)

-- and in blocks
abbrev pub copied_groups : {O : Type 0} → Meaning O → ℕ → List (Record O) → List (List (Record O))
copied_groups m base records = in_full_blocks m (copied_records base records)

-- The files hold the copy of a log with these records: log B is in force, has epoch 2, the log's base and as many commands before it,
-- and the copied records, in full blocks.
abbrev pub HoldsCopy : {O : Type 0} → Meaning O → LogView → List (Record O) → Files → Type 0
HoldsCopy m log records files = HoldsRecordLog m LogB (second_header log.header.base log.header.commands) (copied_groups m log.header.base records) files

-- the length of its file
abbrev pub copied_length : {O : Type 0} → Meaning O → LogView → List (Record O) → ℕ
copied_length m log records = file_length (map (payload_of m) (copied_groups m log.header.base records))

-- over files that are reported, and hold the log, the number is that length
abbrev pub IsCopyLength : {O : Type 0} → Meaning O → Disk → RecordLogView → ℕ → Type 0
IsCopyLength {O = O} m d log n = d.tells_files → (stable pending : List (Record O)) → Keeps m d log stable pending → n ≡ copied_length m log.log stable

-- and over such files that length is within its range
abbrev pub IsCopyWithin : {O : Type 0} → Meaning O → Disk → RecordLogView → Type 0
IsCopyWithin {O = O} m d log = d.tells_files → (stable pending : List (Record O)) → Keeps m d log stable pending → copied_length m log.log stable ≤ 2 ^ 48

-- With the block in hand ended, these are the lengths of the blocks of a copy that begins at this base, where a log has these
-- records. A checkpoint comes last where it has none with an LSN.
pub record HasLast {O : Type 0} (m : Meaning O) (base : ℕ) (records : List (Record O)) (it : Measured) (last : Option (Record O)) : Type 0 where
  pub lengths : it.full.items ++ it.filled ∷ [] ≡ block_lengths 0 (code_lengths m (from_lsn base records ++ option_to_list last))
  pub whole : from_lsn base records ++ option_to_list last ≡ copied_records base records
  pub grammar : IfSome last (IsRecord m)
  pub short : IfSome last (λ r. length (record_code m r) ≤ 2 ^ 30)

-- What the copy of this log will be: the records with an LSN, and perhaps a last one that is put after them.
pub record IsCopyPlanned {O : Type 0} (m : Meaning O) (d : Disk) (log : LogView) (it : NewLog) (last : Option (Record O)) : Type 0 where
  pub planned : IsPlanned m d log log.header.base (option_to_list last) it
  pub whole : from_lsn log.header.base planned.records ++ option_to_list last ≡ copied_records log.header.base planned.records
  pub grammar : IfSome last (IsRecord m)

-- a copy of this log would be too long
pub record IsTooLong (log : LogView) (length_is : ℕ → Type 0) (used need limit : ℕ) : Type 0 where
  pub used_is : used ≡ used_of log
  pub need_is : length_is need
  pub limit_is : limit ≡ 2 ^ 48
  pub above : limit < need

-- Why a log is not copied: by a fault of its own disk or of the target's, by damage in its files, because its copy is too long, or out of
-- memory.
abbrev pub CopyFails : Type 0 → Type 0 → (FileNo → ℕ → Type 0) → (ℕ → ℕ → ℕ → Type 0) → CopyErr → Type 0
CopyFails rises target_rises fault too_long (LogFull used need limit) = too_long used need limit
CopyFails rises target_rises fault too_long DiskFault = rises
CopyFails rises target_rises fault too_long TargetFault = target_rises
CopyFails rises target_rises fault too_long (Damaged file place) = fault file place
CopyFails rises target_rises fault too_long Memory = ⊤

-- it reports damage in the log
abbrev pub CopyFindsDamage : CopyErr → Type 0
CopyFindsDamage (LogFull used need limit) = ⊥
CopyFindsDamage DiskFault = ⊥
CopyFindsDamage TargetFault = ⊥
CopyFindsDamage (Damaged file place) = ⊤
CopyFindsDamage Memory = ⊥

-- a copy that could not read the log
abbrev pub copy_from_read : ReadErr → CopyErr
copy_from_read of_read.DiskFault = DiskFault
copy_from_read (of_read.Damaged file place) = Damaged file place
copy_from_read of_read.Memory = Memory

-- one that could not write the target's
abbrev pub copy_from_put : PutErr → CopyErr
copy_from_put put_err.DiskFault = TargetFault
copy_from_put put_err.Memory = Memory
