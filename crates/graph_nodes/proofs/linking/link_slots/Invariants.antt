use Rattle.graph_nodes.specs.Levels.{AreLinked}
use Rattle.graph_nodes.proofs.Followed.{IsOfEarly}
use Rattle.graph_nodes.proofs.linking.link_slots.Given as goal

abbrev pub invariant-loop-s : goal.invariant-loop-s
invariant-loop-s l = AreLinked (IsOfEarly l.slots l.s-index) l.nodes.arcs.now.cells l.nodes.node.now l.level l.fn.near l.near
