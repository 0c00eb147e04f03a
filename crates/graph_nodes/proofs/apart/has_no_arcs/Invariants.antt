use Rattle.std.proofs.Common.{◌≡◌, ℕ, ◌+◌, ◌*◌, ◌<◌}
use Rattle.std.specs.Prelude.{None}
use Rattle.graph_nodes.specs.Arcs.{arc_at}
use Rattle.graph_nodes.proofs.apart.has_no_arcs.Given as goal

abbrev pub invariant-loop-i : goal.invariant-loop-i
invariant-loop-i l = (k : ℕ) → k < l.i → arc_at l.arcs.cells (8 * l.slot + k) ≡ None
