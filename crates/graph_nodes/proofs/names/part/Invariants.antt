use Rattle.std.proofs.Common.{◌≡◌}
use Rattle.graph_nodes.proofs.Scattered.{IsParting}
use Rattle.graph_nodes.proofs.names.part.Given as goal

abbrev pub invariant-loop-s : goal.invariant-loop-s
invariant-loop-s l = IsParting l.slots l.s-index l.fn.name.items l.name.items × (l.name.room ≡ l.fn.name.room)
