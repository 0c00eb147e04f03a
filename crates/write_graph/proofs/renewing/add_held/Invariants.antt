use Rattle.std.proofs.Common.{◌≡◌, take}
use Rattle.write_graph.specs.Cells.{held_entries}
use Rattle.write_graph.proofs.renewing.add_held.Given as goal

abbrev pub invariant-loop-slot : goal.invariant-loop-slot
invariant-loop-slot l = l.graph.entries ≡ held_entries l.slots.held (take l.slot l.entries.items)
