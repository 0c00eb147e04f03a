use Rattle.std.proofs.Common.{◌≡◌, ◌≤◌, ◌-◌, ℕ, List, length, take}
use Rattle.disk_model.specs.Disk.{Disk, Stays, read_of}
use Rattle.disk_model.specs.declared.machine.FileNo.TheVariants.{Objects}
use Rattle.stable_objects.proofs.comparing.bytes_stand.Given as goal

-- the first n of these bytes stand at the place
pub record HaveStood (first now : Disk) (place : ℕ) (bytes : List ℕ) (n : ℕ) : Type 0 where
  pub kept : Stays first now
  pub within : n ≤ length bytes
  pub stand : first.tells_files → read_of (first.reads Objects) place n ≡ take n bytes

abbrev pub invariant-loop-from : goal.invariant-loop-from
invariant-loop-from g l = HaveStood (g.M.Machine.disk l.fn.machine) (g.M.Machine.disk l.machine) l.place l.bytes l.from

abbrev pub decreases-loop-from : goal.decreases-loop-from
decreases-loop-from g l = length l.bytes - l.from
