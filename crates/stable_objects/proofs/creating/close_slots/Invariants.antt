use Rattle.std.proofs.Common.{◌<◌, ℕ}
use Rattle.disk_model.specs.Disk.{Disk, Runs, In, Same}
use Rattle.disk_model.specs.declared.machine.FileNo.TheVariants.{Objects}
use Rattle.formats.specs.declared.layout.Layout.{Layout}
use Rattle.stable_objects.specs.SlotGates.{slot_gate}
use Rattle.stable_objects.specs.Making.{KeepsFront}
use Rattle.stable_objects.proofs.Made.{IsClosedWithin}
use Rattle.stable_objects.proofs.creating.close_slots.Given as goal

pub record Closes (first now : Disk) (layout : Layout) (slot : ℕ) : Type 0 where
  pub kept : Runs (In Objects (KeepsFront layout.first)) Same first now
  pub closed : first.tells_files → (k : ℕ) → k < slot → IsClosedWithin (slot_gate layout k) (now.reads Objects)

abbrev pub invariant-loop-slot : goal.invariant-loop-slot
invariant-loop-slot g l = Closes (g.M.Machine.disk l.fn.machine) (g.M.Machine.disk l.machine) l.layout l.slot
