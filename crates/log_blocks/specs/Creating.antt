-- What the making of a log leaves alone, and what it makes.
use Rattle.std.specs.Prelude.{◌≡◌, []}
use Rattle.disk_model.specs.Disk.{Files}
use Rattle.disk_model.specs.declared.machine.FileNo.TheVariants.{Objects, LogA}
use Rattle.formats.specs.InForce.{HoldsLog}
use Rattle.formats.specs.Log.{new_header}

-- the objects stay
abbrev pub LogsAlone : Files → Files → Type 0
LogsAlone old new = new Objects ≡ old Objects

-- the log of a new store, in log A: its first epoch, and no block
abbrev pub IsNewLog : Files → Type 0
IsNewLog files = HoldsLog LogA new_header [] files
