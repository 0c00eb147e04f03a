-- Why a call stops.
use Rattle.std.specs.Prelude.{◌≡◌, ◌⊎◌, ⊤, ℕ}
use Rattle.disk_model.specs.Disk.{Disk, Rises}
use Rattle.disk_model.specs.declared.machine.FileNo.{FileNo}
use Rattle.tool_output.specs.declared.status.Status.{Status}
use Rattle.tool_output.specs.declared.status.Status.TheVariants.{DiskFault, SayFault}
use Rattle.tool_output.specs.declared.stop.Stop.{Stop}
use Rattle.tool_output.specs.declared.stop.Stop.TheVariants as stops

-- by a fault of the disk or of the output, which then counts it, by what is found in a file, or out of memory
abbrev pub StopsBy : Disk → Disk → (FileNo → ℕ → Type 0) → Stop → Type 0
StopsBy old new found stops.NotAStore = ⊥
StopsBy old new found (stops.Damaged file place) = found file place
StopsBy old new found stops.DiskFault = Rises old.disk_faults new.disk_faults
StopsBy old new found stops.SayFault = Rises old.say_faults new.say_faults
StopsBy old new found stops.Memory = ⊤

-- a fault of the disk or of the output is reported only where that was counted
abbrev pub CountsStop : Disk → Disk → Stop → Type 0
CountsStop old new stops.DiskFault = Rises old.disk_faults new.disk_faults
CountsStop old new stops.SayFault = Rises old.say_faults new.say_faults
CountsStop old new stop = ⊤

-- the same of a status
abbrev pub CountsFaults : Disk → Disk → Status → Type 0
CountsFaults old new DiskFault = Rises old.disk_faults new.disk_faults
CountsFaults old new SayFault = Rises old.say_faults new.say_faults
CountsFaults old new status = ⊤

-- the status after a last line: the disk was not used, and the output failed only where that was counted
abbrev pub EndsBy : Disk → Disk → Status → Type 0
EndsBy old new DiskFault = ⊥
EndsBy old new SayFault = Rises old.say_faults new.say_faults
EndsBy old new status = ⊤

-- the same after a call that stopped: a fault of it is handed on
abbrev pub HandsOn : Disk → Disk → Stop → Status → Type 0
HandsOn old new stop DiskFault = stop ≡ stops.DiskFault
HandsOn old new stop SayFault = (stop ≡ stops.SayFault) ⊎ Rises old.say_faults new.say_faults
HandsOn old new stop status = ⊤
