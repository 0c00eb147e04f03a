-- Files as they are handed in.
use Rattle.std.specs.Prelude.{ℕ, List}
use Rattle.disk_model.specs.Disk.{Files}
use Rattle.disk_model.specs.declared.machine.FileNo.TheVariants.{Objects, LogA, LogB}

-- three files that hold these bytes
abbrev pub handed : List ℕ → List ℕ → List ℕ → Files
handed objects log_a log_b Objects = objects
handed objects log_a log_b LogA = log_a
handed objects log_a log_b LogB = log_b
