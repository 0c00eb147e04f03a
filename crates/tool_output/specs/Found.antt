-- What the files are where a tool goes on, and where it stops.
use Rattle.std.specs.Prelude.{◌≡◌, ⊤}
use Rattle.disk_model.specs.Disk.{Files}
use Rattle.disk_model.specs.declared.machine.FileNo.TheVariants.{Objects}
use Rattle.formats.specs.Bytes.{IsClosedAt}
use Rattle.formats.specs.FirstFault.{AreObjectsWhole, IsDamaged}
use Rattle.formats.specs.Objects.{bounds_of, params_in}
use Rattle.op_codec.specs.AllOps.{all_meaning}
use Rattle.oper_core.specs.declared.bounds.Bounds.{Bounds}
use Rattle.tool_output.specs.declared.stop.Stop.{Stop}
use Rattle.tool_output.specs.declared.stop.Stop.TheVariants as stops

-- the objects file by itself has no fault, and these are the bounds of its store
abbrev pub HasStore : Files → Bounds → Type 0
HasStore files b = AreObjectsWhole files × (b ≡ bounds_of (params_in (files Objects)))

-- what the files are where a tool stops early: no store, or damaged at that place
abbrev pub IsStopped : Files → Stop → Type 0
IsStopped files stops.NotAStore = IsClosedAt 0 (files Objects)
IsStopped files (stops.Damaged file place) = IsDamaged all_meaning files file place
IsStopped files stop = ⊤

-- the same of a store: never no store
abbrev pub IsLogStopped : Files → Stop → Type 0
IsLogStopped files stops.NotAStore = ⊥
IsLogStopped files (stops.Damaged file place) = IsDamaged all_meaning files file place
IsLogStopped files stop = ⊤
