-- Files that meet their format.
use Rattle.std.specs.Prelude.{◌<◌, ℕ, List}
use Rattle.disk_model.specs.Disk.{Files}
use Rattle.disk_model.specs.declared.machine.FileNo.{FileNo}
use Rattle.disk_model.specs.declared.machine.FileNo.TheVariants.{Objects}
use Rattle.oper_core.specs.Meaning.{Meaning}
use Rattle.oper_core.specs.declared.bounds.Bounds.{Bounds}
use Rattle.formats.specs.Bytes.{IsOpenAt}
use Rattle.formats.specs.Log.{Header}
use Rattle.formats.specs.Objects.{bounds_of, place_in, lsn_at, IsObjectsFile}
use Rattle.formats.specs.Records.{HoldsRecordLog, records_of, next_after}
use Rattle.formats.specs.declared.params.Params.{Params}
use Rattle.formats.specs.declared.record.Record.{Record}
use Rattle.stable_objects.specs.Laws.{gate_is_open}

-- The files meet their format: the objects file is whole, the log in force is one of records of its store, and each
-- open slot has the LSN of a record before the log's end.
pub record IsWellFormed {O : Type 0} (meaning : Bounds → Meaning O) (files : Files) : Type 0 where
  pub params : Params
  pub active : FileNo
  pub header : Header
  pub groups : List (List (Record O))
  pub objects : IsObjectsFile params (files Objects)
  pub log : HoldsRecordLog (meaning (bounds_of params)) active header groups files
  pub none_late : (x s : ℕ) → x < params.objects → s < 2 → IsOpenAt (place_in (files Objects) x s) (files Objects)
      → lsn_at (place_in (files Objects) x s) (files Objects) < next_after header.base (records_of groups)

-- where files meet it, their gate is open
pub opens_gate : {O : Type 0} (meaning : Bounds → Meaning O) {files : Files} → IsWellFormed meaning files → IsOpenAt 0 (files Objects)
opens_gate meaning {files} image = gate_is_open image.params (files Objects) image.objects
