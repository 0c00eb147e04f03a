use Rattle.std.proofs.Common.{◌≤◌, ℕ, List}
use Rattle.disk_model.specs.Disk.{Disk}
use Rattle.disk_model.specs.declared.machine.FileNo.TheVariants.{Objects}
use Rattle.formats.specs.declared.params.Params.{Params}
use Rattle.stable_objects.specs.Upgrades.Filling.{IsFilledTo}
use Rattle.stable_objects.specs.Upgrades.Growing.{pair_before}
use Rattle.stable_objects.specs.Upgrades.Larger.{IsStill, HasLastHead, end_of_slots, seconded}
use Rattle.stable_objects.specs.SlotsView.{SlotsView}
use Rattle.stable_objects.proofs.Upgraded.Grown.{RunsBehind}
use Rattle.stable_objects.proofs.slots.Slots.move_pairs.Given as goal

-- the pairs of the first n objects are moved
pub record Moves (first now : Disk) (slots : SlotsView) (q : Params) (n : ℕ) : Type 0 where
  pub runs : RunsBehind (end_of_slots slots) first now
  pub within : n ≤ slots.params.objects
  pub moved : first.tells_files → (start : List ℕ) → IsStill slots start (first.reads Objects) → HasLastHead slots (first.reads Objects) → IsFilledTo q 0 (pair_before slots.params start) (seconded (first.reads Objects))
      → IsFilledTo q n (pair_before slots.params start) (seconded (now.reads Objects))

abbrev pub invariant-loop-object : goal.invariant-loop-object
invariant-loop-object g l = Moves (g.M.Machine.disk l.fn.machine) (g.M.Machine.disk l.machine) l.self l.params l.object
