-- Calls that leave the files as they are.
use Rattle.std.specs.Prelude.{◌≡◌}
use Rattle.disk_model.specs.Disk.{Disk, LeavesOnly, Runs, Same, Any}

-- the files read as before, and whatever a crash at any moment leaves of them a crash at the start could have left
pub record KeepsFiles (old new : Disk) : Type 0 where
  pub reads : old.tells_files → new.reads ≡ old.reads
  pub images : old.tells_moments → LeavesOnly old new (λ files said. old.left_since old.clock files old.said)

-- nothing but what was said changes: neither what reads give, nor what a crash may leave
abbrev pub SaysOnly : Disk → Disk → Type 0
SaysOnly old new = Runs Same Any old new
