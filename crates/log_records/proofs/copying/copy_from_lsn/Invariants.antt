use Rattle.std.proofs.Common.{◌≡◌, ℕ, List}
use Rattle.disk_model.specs.Disk.{Disk, In, Runs, Same}
use Rattle.oper_core.specs.Meaning.{Meaning}
use Rattle.oper_core.specs.declared.bounds.Bounds.{Bounds}
use Rattle.formats.specs.declared.record.Record.{Record}
use Rattle.log_blocks.specs.LogView.{LogView}
use Rattle.log_blocks.specs.Payloads.{ahead}
use Rattle.log_blocks.specs.Rewriting.{KeepsClosed}
use Rattle.log_blocks.specs.Writing.{LogWriterView}
use Rattle.log_records.specs.Copying.{IsLaid}
use Rattle.log_records.specs.Laying.{codes_of}
use Rattle.log_records.specs.RecordReader.{RecordReaderView, IsReading}
use Rattle.log_records.specs.Rewriting.{from_lsn}
use Rattle.log_records.specs.declared.blocks_left.BlocksLeft.{BlocksLeft}
use Rattle.log_records.proofs.copying.copy_from_lsn.Given as goal

-- those with an LSN of the records that were read were put
pub record IsCopying {O : Type 0} (m : Meaning O) (b : Bounds) (log : LogView) (first now : Disk) (it : RecordReaderView) (base : ℕ) (out out' : LogWriterView) (blocks blocks' : BlocksLeft) : Type 0 where
  pub kept : Runs (In out.file KeepsClosed) Same first now
  pub file : out'.file ≡ out.file
  pub bounds : it.bounds ≡ b
  pub records : List (Record O)
  pub reading : IsReading m now log it records
  pub laid : IsLaid first now out out' blocks blocks' (codes_of m (from_lsn base records))

abbrev pub invariant-loop-code : goal.invariant-loop-code
invariant-loop-code g l = IsCopying (g.O.Oper.meaning l.fn.b) l.fn.b l.log (g.M.Machine.disk l.fn.m) (g.M.Machine.disk l.m) l.reader l.base l.fn.out l.out l.fn.blocks l.blocks

abbrev pub decreases-loop-code : goal.decreases-loop-code
decreases-loop-code g l = ahead l.reader.payloads
