use Rattle.std.proofs.Common.{◌≡◌, ◌≤◌, ◌-◌}
use Rattle.std.specs.Vec.{vec_capacity}
use Rattle.graph_nodes.specs.Search.{IsBehind}
use Rattle.graph_nodes.proofs.Taken.{IsSpreading}
use Rattle.graph_nodes.proofs.spreading.spread.Given as goal

abbrev pub invariant-loop-before : goal.invariant-loop-before
invariant-loop-before l = IsSpreading (IsBehind l.nodes.arcs.now.cells l.nodes.node.now l.into) l.w l.found.members l.before l.taken.members × (l.taken.end ≡ l.fn.taken.end) × (l.fn.taken.room ≤ l.taken.room) × (vec_capacity l.fn.cells ≤ vec_capacity l.cells)

abbrev pub decreases-loop-before : goal.decreases-loop-before
decreases-loop-before l = l.taken.end - l.before
