use Rattle.graph_nodes.specs.Levels.{AreLinked}
use Rattle.graph_nodes.proofs.Followed.{IsEarly}
use Rattle.graph_nodes.proofs.linking.link_slot.Given as goal

abbrev pub invariant-loop-i : goal.invariant-loop-i
invariant-loop-i l = AreLinked (IsEarly l.slot l.i) l.nodes.arcs.now.cells l.nodes.node.now l.level l.fn.near l.near
