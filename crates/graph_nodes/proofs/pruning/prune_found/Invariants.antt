use Rattle.std.proofs.Common.{◌≤◌}
use Rattle.std.specs.Vec.{vec_capacity}
use Rattle.graph_nodes.specs.Levels.{ArePruned}
use Rattle.graph_nodes.proofs.pruning.prune_found.Given as goal

abbrev pub invariant-loop-i : goal.invariant-loop-i
invariant-loop-i l = ArePruned l.nodes.arcs.now.cells l.nodes.node.now l.fn.near l.near × (vec_capacity l.fn.cells ≤ vec_capacity l.cells)
