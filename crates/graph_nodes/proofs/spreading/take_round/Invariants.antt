use Rattle.std.proofs.Common.{◌≤◌, length}
use Rattle.std.specs.Vec.{vec_capacity}
use Rattle.graph_nodes.specs.Search.{IsBehind}
use Rattle.graph_nodes.proofs.Taken.{IsInRound}
use Rattle.graph_nodes.proofs.spreading.take_round.Given as goal

abbrev pub invariant-loop-i : goal.invariant-loop-i
invariant-loop-i l = IsInRound (IsBehind l.arcs.cells l.node l.into) l.found.members l.i l.fn.taken l.taken × (vec_capacity l.fn.cells ≤ vec_capacity l.cells) × (l.i ≤ length l.found.members)

abbrev pub decreases-loop-i : goal.decreases-loop-i
decreases-loop-i l = l.i
