use Rattle.std.proofs.Common.{◌≡◌}
use Rattle.graph_nodes.specs.Into.{AreCleared}
use Rattle.graph_nodes.specs.Named.{AreNamesSame}
use Rattle.graph_nodes.specs.Removed.{IsInOrder}
use Rattle.graph_nodes.proofs.Cleared.{IsOfSome}
use Rattle.graph_nodes.proofs.clearing.clear_slots.Given as goal

abbrev pub invariant-loop-s : goal.invariant-loop-s
invariant-loop-s l = AreCleared (IsOfSome l.slots l.s-index) l.fn.arcs.cells l.arcs.cells l.fn.into l.into × IsInOrder l.arcs.cells l.node l.into l.names × AreNamesSame l.fn.names l.names × (l.arcs.room ≡ l.fn.arcs.room)
