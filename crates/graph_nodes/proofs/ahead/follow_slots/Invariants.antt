use Rattle.graph_nodes.specs.Ahead.{AreFollowed}
use Rattle.graph_nodes.proofs.Followed.{IsOfEarly}
use Rattle.graph_nodes.proofs.ahead.follow_slots.Given as goal

abbrev pub invariant-loop-s : goal.invariant-loop-s
invariant-loop-s l = AreFollowed (IsOfEarly l.slots l.s-index) l.nodes.arcs.now.cells l.nodes.node.now l.level l.l l.fn.ahead l.ahead
