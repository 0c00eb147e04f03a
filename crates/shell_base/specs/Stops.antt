-- What is true where a call stops early.
use Rattle.std.specs.Prelude.{⊤}
use Rattle.disk_model.specs.Disk.{Disk, Rises}
use Rattle.shell_base.specs.declared.stop.Stop.{Stop}
use Rattle.shell_base.specs.declared.stop.Stop.TheVariants.{DiskFault, Damaged, ReadFault, SayFault, BackupFault, Memory, TooLong}

-- no slot that was read broke its format
abbrev pub IsUndamaged : Stop → Type 0
IsUndamaged (Damaged file place) = ⊥
IsUndamaged stop = ⊤

-- what ends a run while a line is answered that is of no backup has its cause
abbrev pub IsCaused : Stop → Disk → Disk → Type 0
IsCaused DiskFault old new = Rises old.disk_faults new.disk_faults
IsCaused (Damaged file place) old new = ⊤
IsCaused SayFault old new = Rises old.say_faults new.say_faults
IsCaused ReadFault old new = ⊥
IsCaused BackupFault old new = ⊥
IsCaused Memory old new = ⊤
IsCaused TooLong old new = ⊥
