use Rattle.std.proofs.Common.{ℕ, ◌<◌}
use Rattle.std.specs.Prelude.{slice_index}
use Rattle.graph_nodes.specs.Spread.{StartsIn}
use Rattle.graph_nodes.proofs.spreading.one_starts_in.Given as goal

abbrev pub invariant-loop-c : goal.invariant-loop-c
invariant-loop-c l = (k : ℕ) → k < l.c-index → StartsIn l.arcs.cells l.node (slice_index l.cells k) l.taken.members → ⊥
