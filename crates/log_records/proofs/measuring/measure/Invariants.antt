use Rattle.std.proofs.Common.{◌≡◌, ℕ, List}
use Rattle.disk_model.specs.Disk.{Disk, Stays}
use Rattle.oper_core.specs.Meaning.{Meaning}
use Rattle.oper_core.specs.declared.bounds.Bounds.{Bounds}
use Rattle.formats.specs.declared.record.Record.{Record}
use Rattle.log_blocks.specs.LogView.{LogView}
use Rattle.log_blocks.specs.Payloads.{ahead}
use Rattle.log_records.specs.Measured.{IsMeasured}
use Rattle.log_records.specs.RecordReader.{RecordReaderView, IsReading}
use Rattle.log_records.specs.declared.measured.Measured.{Measured}
use Rattle.log_records.proofs.measuring.measure.Given as goal

-- the records that were read are measured
pub record IsMeasuring {O : Type 0} (m : Meaning O) (b : Bounds) (log : LogView) (first now : Disk) (it : RecordReaderView) (base : ℕ) (so_far : Measured) : Type 0 where
  pub kept : Stays first now
  pub bounds : it.bounds ≡ b
  pub records : List (Record O)
  pub reading : IsReading m now log it records
  pub measured : IsMeasured m base records so_far

abbrev pub invariant-loop-so_far : goal.invariant-loop-so_far
invariant-loop-so_far g l = IsMeasuring (g.O.Oper.meaning l.fn.b) l.fn.b l.log (g.M.Machine.disk l.fn.m) (g.M.Machine.disk l.m) l.reader l.base l.so_far

abbrev pub decreases-loop-so_far : goal.decreases-loop-so_far
decreases-loop-so_far g l = ahead l.reader.payloads
