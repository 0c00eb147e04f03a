-- What a store leaves of which the log is read for a redo, and the reader.
use Rattle.std.specs.Prelude.{◌≡◌, ℕ, Bool, []}
use Rattle.disk_model.specs.Disk.{Disk, Stays}
use Rattle.oper_core.specs.Meaning.{Meaning}
use Rattle.oper_core.specs.declared.bounds.Bounds.{Bounds}
use Rattle.log_records.specs.LsnReader.{IsReadingFromLsn, LsnReaderView}
use Rattle.log_records.specs.RecordLog.{RecordLogView}
use Rattle.running_store.specs.StoreView.{StoreView}

-- The machine stays, and so does the store, but that it may be broken.
pub record IsLogRead (old new : Disk) (before after : StoreView) (failed : Bool) : Type 0 where
  pub stays : Stays old new
  pub store : after ≡ record before { broken = failed }

-- a reader of this log from an LSN on, that has given none
pub record IsReaderOf {O : Type 0} (meaning : Bounds → Meaning O) (d : Disk) (log : RecordLogView) (first : ℕ) (it : LsnReaderView) : Type 0 where
  pub from : it.from ≡ first
  pub bounds : it.records.bounds ≡ log.bounds
  pub reading : IsReadingFromLsn (meaning log.bounds) d log it []

-- the same reader, that has read on
pub record IsSameReader (before after : LsnReaderView) : Type 0 where
  pub same : after ≡ record before { records = after.records }
  pub bounds : after.records.bounds ≡ before.records.bounds
