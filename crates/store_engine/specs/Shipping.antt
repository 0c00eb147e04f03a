-- What an engine says of its log to whoever follows it.
use Rattle.std.specs.Prelude.{◌≡◌, ◌<◌, ◌≤◌, ℕ, List, [], Result, Ok, Err}
use Rattle.disk_model.specs.Disk.{Disk}
use Rattle.disk_model.specs.declared.machine.FileNo.{FileNo}
use Rattle.oper_core.specs.Meaning.{Meaning}
use Rattle.oper_core.specs.declared.bounds.Bounds.{Bounds}
use Rattle.formats.specs.Records.{IsRecordLog}
use Rattle.formats.specs.declared.read_err.ReadErr.{ReadErr}
use Rattle.formats.specs.declared.read_err.ReadErr.TheVariants as of_read
use Rattle.formats.specs.declared.record.Record.{Record}
use Rattle.frame_stream.specs.Frames.{frames}
use Rattle.log_records.specs.BlockReader.{BlockReaderView, IsReadingBlocks, payloads_from}
use Rattle.store_engine.specs.Engine.{EngineView}
use Rattle.store_engine.specs.declared.ship_err.ShipErr.{ShipErr}
use Rattle.store_engine.specs.declared.ship_err.ShipErr.TheVariants.{Gone, DiskFault, Damaged, Memory}

abbrev pub ship_from_read : ReadErr → ShipErr
ship_from_read of_read.DiskFault = DiskFault
ship_from_read (of_read.Damaged file place) = Damaged file place
ship_from_read of_read.Memory = Memory

-- the log begins with this LSN
abbrev pub base_of : EngineView → ℕ
base_of engine = engine.parts.log.log.header.base

-- Why what the log has from an LSN on gets this answer: the log begins later, exactly there; or the disk failed, a record breaks
-- its format, or memory ran out.
abbrev pub HasShipCause : {T : Type 0} → ℕ → ℕ → Type 0 → (FileNo → ℕ → Type 0) → Result T ShipErr → Type 0
HasShipCause base from rises fault (Ok value) = base ≤ from
HasShipCause base from rises fault (Err (Gone begins)) = (from < base) × (begins ≡ base)
HasShipCause base from rises fault (Err DiskFault) = (base ≤ from) × rises
HasShipCause base from rises fault (Err (Damaged file place)) = (base ≤ from) × fault file place
HasShipCause base from rises fault (Err Memory) = base ≤ from

module _ {O : Type 0} (meaning : Bounds → Meaning O) where
  -- a reader of the engine's log from an LSN on, that has given none
  pub record IsReaderFrom (d : Disk) (engine : EngineView) (from : ℕ) (it : BlockReaderView) : Type 0 where
    pub from_is : it.from ≡ from
    pub bounds : it.records.bounds ≡ engine.parts.log.bounds
    pub reading : IsReadingBlocks (meaning engine.parts.log.bounds) d engine.parts.log.log it []

  -- these are the frames of what the blocks of the engine's log have from an LSN on, a frame for each block that has any
  abbrev pub AreFramesFrom : Disk → EngineView → ℕ → List ℕ → Type 0
  AreFramesFrom d engine from bytes = (groups : List (List (Record O))) → IsRecordLog (meaning engine.parts.log.bounds) engine.parts.log.log.header groups (d.reads engine.parts.log.log.active)
      → bytes ≡ frames (payloads_from (meaning engine.parts.log.bounds) from groups)
