use Rattle.std.proofs.Common.{◌≡◌, ℕ, Option, List, length}
use Rattle.disk_model.specs.Disk.{Disk, Stays}
use Rattle.oper_core.specs.Meaning.{Meaning}
use Rattle.oper_core.specs.declared.bounds.Bounds.{Bounds}
use Rattle.dirty_page_table.specs.declared.table.DirtyPageTable.{DirtyPageTable}
use Rattle.formats.specs.Records.{commands_of, last_checkpoint}
use Rattle.formats.specs.declared.record.Record.{Record}
use Rattle.log_blocks.specs.LogView.{LogView}
use Rattle.log_blocks.specs.Payloads.{ahead}
use Rattle.log_records.specs.RecordReader.{RecordReaderView, IsReading}
use Rattle.log_records.proofs.loading.count_records.Given as goal

-- the records that were read are counted, and the last checkpoint's table is kept
pub record IsCounting {O : Type 0} (m : Meaning O) (b : Bounds) (log : LogView) (first now : Disk) (it : RecordReaderView) (commands : ℕ) (last : Option DirtyPageTable) : Type 0 where
  pub kept : Stays first now
  pub bounds : it.bounds ≡ b
  pub records : List (Record O)
  pub reading : IsReading m now log it records
  pub commands_are : commands ≡ length (commands_of records)
  pub last_is : last ≡ last_checkpoint records

abbrev pub invariant-loop-last : goal.invariant-loop-last
invariant-loop-last g l = IsCounting (g.O.Oper.meaning l.fn.b) l.fn.b l.log (g.M.Machine.disk l.fn.m) (g.M.Machine.disk l.m) l.reader l.commands l.last

abbrev pub decreases-loop-last : goal.decreases-loop-last
decreases-loop-last g l = ahead l.reader.payloads
