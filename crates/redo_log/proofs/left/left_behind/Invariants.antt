use Rattle.std.proofs.Common.{◌≡◌, ◌≤◌, ◌-◌, ℕ, length, take, drop}
use Rattle.disk_model.specs.Disk.{Disk, Files, Stays}
use Rattle.disk_model.specs.declared.machine.FileNo.{FileNo}
use Rattle.redo_log.specs.Lines.{used}
use Rattle.redo_log.proofs.left.left_behind.Given as goal

-- so many bytes of those behind the place were read
pub record IsCounting (first now : Disk) (file : FileNo) (size from all gone left : ℕ) : Type 0 where
  pub kept : Stays first now
  pub all_is : all ≡ size - from
  pub within : gone ≤ all
  pub so_far : (files : Files) → now.agrees files → (size ≡ length (files file)) × (left ≡ used (take gone (drop from (files file))))

abbrev pub invariant-loop-gone : goal.invariant-loop-gone
invariant-loop-gone g l = IsCounting (g.M.Machine.disk l.fn.machine) (g.M.Machine.disk l.machine) l.file l.size l.from l.all l.gone l.left

abbrev pub decreases-loop-gone : goal.decreases-loop-gone
decreases-loop-gone g l = l.all - l.gone
