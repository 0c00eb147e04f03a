-- What the steps of a rewrite leave that puts records into a new log.
use Rattle.std.specs.Prelude.{◌≡◌, ◌≢◌, ◌<◌, ◌≤◌, ◌+◌, ◌^◌, ℕ, Bool, true, false, List, [], ◌∷◌, ◌++◌, drop, length, ⊤}
use Rattle.disk_model.specs.Disk.{Disk}
use Rattle.dirty_page_table.specs.declared.table.DirtyPageTable.{DirtyPageTable}
use Rattle.oper_core.specs.Meaning.{Meaning}
use Rattle.formats.specs.InForce.{other_of}
use Rattle.formats.specs.Records.{commands_of}
use Rattle.formats.specs.declared.read_err.ReadErr.{ReadErr}
use Rattle.formats.specs.declared.read_err.ReadErr.TheVariants.{DiskFault, Memory}
use Rattle.formats.specs.declared.record.Record.{Record}
use Rattle.formats.specs.declared.record.Record.TheVariants.{Checkpoint}
use Rattle.log_blocks.specs.LogView.{LogView}
use Rattle.log_blocks.specs.Writing.{LogWriterView, HasPut, put_of}
use Rattle.log_records.specs.Codec.{AreShort}
use Rattle.log_records.specs.Laying.{Fits, codes_of, laid, room_of}
use Rattle.log_records.specs.Measuring.{block_lengths}
use Rattle.log_records.specs.RecordLog.{RecordLogView}
use Rattle.log_records.specs.RecordReader.{AreAll}
use Rattle.log_records.specs.Rewriting.{IsRewritable, code_lengths, left_out, from_lsn}
use Rattle.log_records.specs.declared.blocks_left.BlocksLeft.{BlocksLeft}
use Rattle.log_records.specs.declared.new_log.NewLog.{NewLog}
use Rattle.log_records.specs.declared.put_err.PutErr.{PutErr}
use Rattle.log_records.specs.declared.put_err.PutErr.TheVariants as put_err

-- the lengths of the blocks after the one in hand
abbrev pub later_of : BlocksLeft → List ℕ
later_of it = drop it.next it.lengths.items

-- how many bytes the log gets still
abbrev pub room_left : BlocksLeft → ℕ
room_left it = it.left + room_of (later_of it)

-- These codes were put into the blocks. Whatever codes come after them are laid as if all came at once.
pub record IsLaid (old new : Disk) (out out' : LogWriterView) (blocks blocks' : BlocksLeft) (codes : List (List ℕ)) : Type 0 where
  pub bytes : List ℕ
  pub put : old.tells_files → (front : List ℕ) → HasPut old out front → HasPut new out' (front ++ bytes)
  pub laid_are : (rest : List (List ℕ)) → laid blocks.left (later_of blocks) (codes ++ rest) ≡ bytes ++ laid blocks'.left (later_of blocks') rest
  pub fits : (rest : List (List ℕ)) → Fits blocks.left (later_of blocks) (codes ++ rest) → Fits blocks'.left (later_of blocks') rest
  pub end : put_of out' + room_left blocks' ≡ put_of out + room_left blocks

-- these codes were put into the blocks, or they have no room where they come next
abbrev pub HasLaid : Disk → Disk → LogWriterView → LogWriterView → BlocksLeft → BlocksLeft → List (List ℕ) → Bool → Type 0
HasLaid old new out out' blocks blocks' codes true = IsLaid old new out out' blocks blocks' codes
HasLaid old new out out' blocks blocks' codes false = (rest : List (List ℕ)) → Fits blocks.left (later_of blocks) (codes ++ rest) → ⊥

-- These codes were put into the blocks, which are full then.
pub record IsFilled (old new : Disk) (out out' : LogWriterView) (blocks : BlocksLeft) (codes : List (List ℕ)) : Type 0 where
  pub put : old.tells_files → (front : List ℕ) → HasPut old out front → HasPut new out' (front ++ laid blocks.left (later_of blocks) codes)
  pub end : put_of out' ≡ put_of out + room_left blocks

-- these codes were put into the blocks, which are full then, or they have no room there, or leave room
abbrev pub HasFilled : Disk → Disk → LogWriterView → LogWriterView → BlocksLeft → List (List ℕ) → Bool → Type 0
HasFilled old new out out' blocks codes true = IsFilled old new out out' blocks codes
HasFilled old new out out' blocks codes false = Fits blocks.left (later_of blocks) codes → ⊥

-- All records with an LSN from a base on of a log on this disk, and some more after them, were put into blocks of these lengths, which
-- are full.
pub record HasCopied {O : Type 0} (m : Meaning O) (d old new : Disk) (log : LogView) (base : ℕ) (more : List (Record O)) (lengths : List ℕ) (out out' : LogWriterView) : Type 0 where
  pub records : List (Record O)
  pub all : AreAll m d log records
  pub put : old.tells_files → (front : List ℕ) → HasPut old out front → HasPut new out' (front ++ laid 0 lengths (codes_of m (from_lsn base records ++ more)))
  pub end : put_of out' ≡ put_of out + room_of lengths

-- What a log will be of the records with an LSN of this one from a base on, and some more after them: how many commands stand before
-- it, and the lengths of its blocks.
pub record IsPlanned {O : Type 0} (m : Meaning O) (d : Disk) (log : LogView) (base : ℕ) (more : List (Record O)) (it : NewLog) : Type 0 where
  pub records : List (Record O)
  pub all : AreAll m d log records
  pub commands : it.commands ≡ log.header.commands + length (commands_of (left_out base records))
  pub lengths : it.lengths.items ≡ block_lengths 0 (code_lengths m (from_lsn base records ++ more))
  pub short : AreShort m (from_lsn base records ++ more)

-- A log may be put in the place of this one: it is planned, a file has room for it, and nothing was put into the other file by
-- this writer.
pub record MayReplace {O : Type 0} (m : Meaning O) (d : Disk) (log : RecordLogView) (base : ℕ) (table : DirtyPageTable) (new : NewLog) (out : LogWriterView) : Type 0 where
  pub may : IsRewritable m log base table
  pub planned : IsPlanned m d log.log base (Checkpoint table ∷ []) new
  pub epoch : log.log.header.epoch < 2 ^ 62
  pub within : 34 + room_of new.lengths.items ≤ 2 ^ 48
  pub out_is : out ≡ record { file = other_of log.log.active; place = 1; bytes = [] }
  pub apart : log.log.active ≢ other_of log.log.active

-- why a record was not put: by a fault of the disk, or out of memory
abbrev pub PutFails : Type 0 → PutErr → Type 0
PutFails rises put_err.DiskFault = rises
PutFails rises put_err.Memory = ⊤

-- a rewrite whose new log could not be written
abbrev pub read_from_put : PutErr → ReadErr
read_from_put put_err.DiskFault = DiskFault
read_from_put put_err.Memory = Memory
