use Rattle.std.proofs.Common.{◌≡◌, ◌+◌, ◌++◌, ◌≤◌}
use Rattle.std.specs.Vec.{vec_len, vec_capacity}
use Rattle.graph_nodes.specs.Kept.{no_arcs}
use Rattle.graph_nodes.proofs.arcs.add_page.Given as goal

abbrev pub invariant-loop-i : goal.invariant-loop-i
invariant-loop-i l = (l.stored.items ≡ l.fn.stored.items ++ no_arcs l.i) × (vec_len l.stored + 64 ≤ vec_capacity l.stored + l.i) × (vec_capacity l.fn.stored ≤ vec_capacity l.stored)
