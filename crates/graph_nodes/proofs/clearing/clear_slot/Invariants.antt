use Rattle.std.proofs.Common.{◌≡◌}
use Rattle.graph_nodes.specs.Into.{AreCleared}
use Rattle.graph_nodes.specs.Named.{AreNamesSame}
use Rattle.graph_nodes.specs.Removed.{IsInOrder}
use Rattle.graph_nodes.proofs.Cleared.{IsOfFirst}
use Rattle.graph_nodes.proofs.clearing.clear_slot.Given as goal

abbrev pub invariant-loop-i : goal.invariant-loop-i
invariant-loop-i l = AreCleared (IsOfFirst l.slot l.i) l.fn.arcs.cells l.arcs.cells l.fn.into l.into × IsInOrder l.arcs.cells l.node l.into l.names × AreNamesSame l.fn.names l.names × (l.arcs.room ≡ l.fn.arcs.room)
