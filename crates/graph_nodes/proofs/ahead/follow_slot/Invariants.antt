use Rattle.graph_nodes.specs.Ahead.{AreFollowed}
use Rattle.graph_nodes.proofs.Followed.{IsEarly}
use Rattle.graph_nodes.proofs.ahead.follow_slot.Given as goal

abbrev pub invariant-loop-i : goal.invariant-loop-i
invariant-loop-i l = AreFollowed (IsEarly l.slot l.i) l.nodes.arcs.now.cells l.nodes.node.now l.level l.l l.fn.ahead l.ahead
