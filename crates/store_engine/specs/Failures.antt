-- Why an object is not fetched, on every machine.
use Rattle.std.specs.Prelude.{◌<◌, ℕ}
use Rattle.disk_model.specs.Disk.{Disk, Rises}
use Rattle.formats.specs.Reading.{FailsBy}
use Rattle.formats.specs.declared.read_err.ReadErr.{ReadErr}
use Rattle.running_store.specs.Laid.LongSlot.{IsLongSlot}
use Rattle.store_engine.specs.Engine.{EngineView, params_of}

-- there is such an object, and its slot is not read: the disk fails, the value there is too long, or memory runs out
abbrev pub IsFetchFailure : Disk → Disk → EngineView → ℕ → ReadErr → Type 0
IsFetchFailure old new engine object e =
    (object < (params_of engine).objects) × FailsBy (Rises old.disk_faults new.disk_faults) (IsLongSlot new engine.parts.volatile.objects.slots object) e
