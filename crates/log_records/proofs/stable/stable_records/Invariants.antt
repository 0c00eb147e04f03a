use Rattle.std.proofs.Common.{◌≡◌, List}
use Rattle.disk_model.specs.Disk.{Disk, Stays}
use Rattle.oper_core.specs.Meaning.{Meaning}
use Rattle.oper_core.specs.declared.bounds.Bounds.{Bounds}
use Rattle.formats.specs.declared.record.Record.{Record}
use Rattle.log_blocks.specs.LogView.{LogView}
use Rattle.log_blocks.specs.Payloads.{ahead}
use Rattle.log_records.specs.RecordReader.{RecordReaderView, IsReading}
use Rattle.log_records.proofs.stable.stable_records.Given as goal

-- the records that were read are kept
pub record IsKeeping {O : Type 0} (m : Meaning O) (b : Bounds) (log : LogView) (first now : Disk) (it : RecordReaderView) (found : List (Record O)) : Type 0 where
  pub kept : Stays first now
  pub bounds : it.bounds ≡ b
  pub reading : IsReading m now log it found

abbrev pub invariant-loop-found : goal.invariant-loop-found
invariant-loop-found g l = IsKeeping (g.O.Oper.meaning l.fn.b) l.fn.b l.log (g.M.Machine.disk l.fn.m) (g.M.Machine.disk l.m) l.reader l.found.items

abbrev pub decreases-loop-found : goal.decreases-loop-found
decreases-loop-found g l = ahead l.reader.payloads
