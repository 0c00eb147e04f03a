use Rattle.std.proofs.Common.{length}
use Rattle.number_lists.specs.Lists.{list_at}
use Rattle.graph_nodes.proofs.Settled.{IsSettling}
use Rattle.graph_nodes.proofs.settling.settle.Given as goal

abbrev pub invariant-cells : goal.invariant-cells
invariant-cells l = IsSettling l.arcs.cells l.node l.n l.initial.into l.into

abbrev pub decreases-cells : goal.decreases-cells
decreases-cells l = length (list_at l.into.lists l.n)
