use Rattle.std.proofs.Common.{◌≡◌}
use Rattle.graph_nodes.proofs.Told.{IsForgetting}
use Rattle.graph_nodes.proofs.names.forget.Given as goal

abbrev pub invariant-loop-i : goal.invariant-loop-i
invariant-loop-i l = IsForgetting l.taken.members l.name.items l.least l.i l.fn.marks.marks l.marks.marks × (l.marks.room ≡ l.fn.marks.room)
