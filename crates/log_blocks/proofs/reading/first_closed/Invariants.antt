use Rattle.std.proofs.Common.{◌≡◌, ◌<◌, ◌-◌, ℕ, List, length}
use Rattle.disk_model.specs.Disk.{Files, Disk, Stays}
use Rattle.disk_model.specs.declared.machine.FileNo.{FileNo}
use Rattle.log_blocks.specs.Reading.{IsReadTo}
use Rattle.log_blocks.proofs.reading.first_closed.Given as goal

pub record Walks (first now : Disk) (file : FileNo) (size gate : ℕ) : Type 0 where
  pub kept : Stays first now
  pub inside : gate < size
  pub so_far : (files : Files) → now.agrees files → size ≡ length (files file) → (payloads : List (List ℕ)) × IsReadTo (files file) gate payloads

abbrev pub invariant-loop-len : goal.invariant-loop-len
invariant-loop-len g l = Walks (g.M.Machine.disk l.fn.machine) (g.M.Machine.disk l.machine) l.file l.size l.gate

abbrev pub decreases-loop-len : goal.decreases-loop-len
decreases-loop-len g l = l.size - l.gate
