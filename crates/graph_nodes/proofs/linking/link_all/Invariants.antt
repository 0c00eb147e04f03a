use Rattle.std.proofs.Common.{◌≤◌}
use Rattle.std.specs.Vec.{vec_capacity}
use Rattle.graph_nodes.specs.Levels.{AreLinked}
use Rattle.graph_nodes.proofs.Linked.{IsOfFirst}
use Rattle.graph_nodes.proofs.linking.link_all.Given as goal

abbrev pub invariant-loop-i : goal.invariant-loop-i
invariant-loop-i l = AreLinked (IsOfFirst l.nodes.node.now l.ahead.members l.i) l.nodes.arcs.now.cells l.nodes.node.now l.level l.fn.near l.near × (vec_capacity l.fn.slots ≤ vec_capacity l.slots)
