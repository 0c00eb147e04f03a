use Rattle.std.proofs.Common.{◌≡◌, ◌≤◌, ◌+◌, ◌-◌, ◌++◌, ℕ, List, length, take}
use Rattle.disk_model.specs.Disk.{Disk, In, Runs, Same}
use Rattle.log_blocks.specs.Rewriting.{KeepsClosed}
use Rattle.log_blocks.specs.Writing.{LogWriterView, HasPut, put_of}
use Rattle.log_blocks.proofs.log_writer.LogWriter.put.Given as goal

-- so many of these bytes were put
pub record HasPutSome (first now : Disk) (before it : LogWriterView) (bytes : List ℕ) (taken : ℕ) : Type 0 where
  pub kept : Runs (In before.file KeepsClosed) Same first now
  pub file : it.file ≡ before.file
  pub so_far : first.tells_files → (front : List ℕ) → HasPut first before front → HasPut now it (front ++ take taken bytes)
  pub end : put_of it ≡ put_of before + taken
  pub within : taken ≤ length bytes

abbrev pub invariant-loop-taken : goal.invariant-loop-taken
invariant-loop-taken g l = HasPutSome (g.M.Machine.disk l.fn.machine) (g.M.Machine.disk l.machine) l.fn.self l.self l.bytes l.taken

abbrev pub decreases-loop-taken : goal.decreases-loop-taken
decreases-loop-taken g l = length l.bytes - l.taken
