-- What a load of a log finds in its files.
use Rattle.std.specs.Prelude.{◌≡◌, ◌<◌, ◌≤◌, All, ℕ, List, length, map}
use Rattle.std.specs.List.Sorted.{IsStrictlyIncreasing}
use Rattle.oper_core.specs.Meaning.{Meaning}
use Rattle.formats.specs.Records.{commands_of, next_after, last_checkpoint}
use Rattle.formats.specs.declared.record.Record.{Record}
use Rattle.disk_model.specs.Disk.{Files, Disk}
use Rattle.disk_model.specs.declared.machine.FileNo.{FileNo}
use Rattle.formats.specs.InForce.{IsInForce, HasHeader}
use Rattle.formats.specs.Log.{Header, IsWholeLog}
use Rattle.formats.specs.Image.{IsRecordFault}
use Rattle.formats.specs.FirstFault.{IsFirstLogFault}
use Rattle.log_blocks.specs.LogView.{LogView}
use Rattle.log_records.specs.declared.counted.Counted.{Counted}

-- the object is from this one on and there, and its start is from the base on and before the next LSN
abbrev pub IsStart : ℕ → ℕ → ℕ → ℕ → ℕ × ℕ → Type 0
IsStart objects base next least s = (least ≤ s.0) × (s.0 < objects) × (base ≤ s.1) × (s.1 < next)

-- redo starts of a checkpoint: their objects rise and are there, and each start is from the base on and before the next LSN
pub record AreStarts (objects base next : ℕ) (starts : List (ℕ × ℕ)) : Type 0 where
  pub rising : IsStrictlyIncreasing (map (λ s. s.0) starts)
  pub there : All (λ s. s.0 < objects) starts
  pub from_base : All (λ s. base ≤ s.1) starts
  pub before : All (λ s. s.1 < next) starts

-- the first check of the logs that fails is reported in this file at this place, or the first of the records of the log in
-- force, whose blocks are whole
pub data IsLoadFault {O : Type 0} (m : Meaning O) (files : Files) : FileNo → ℕ → Type 0 where
  in_blocks : (file : FileNo) (place : ℕ) → IsFirstLogFault files file place → IsLoadFault m files file place
  in_record : (active : FileNo) (header : Header) (place : ℕ) → IsInForce active header.epoch files → HasHeader header (files active) → IsRecordFault m (files active) place → IsLoadFault m files active place

-- The log's records are reported to be damaged in this file at this place: it is the log's file, and where that is a log
-- with this header, a record of it breaks its format there.
abbrev pub IsTailFault : {O : Type 0} → Meaning O → Disk → LogView → FileNo → ℕ → Type 0
IsTailFault m d log file place =
    (file ≡ log.active) × ((files : Files) → d.agrees files → (payloads : List (List ℕ)) → IsWholeLog log.header payloads (files log.active) → IsRecordFault m (files log.active) place)

-- what a pass over a log that begins at this base, with these records, keeps of them
pub record IsCountOf {O : Type 0} (base : ℕ) (records : List (Record O)) (it : Counted) : Type 0 where
  pub next : it.next ≡ next_after base records
  pub commands : it.commands ≡ length (commands_of records)
  pub last : it.last ≡ last_checkpoint records
