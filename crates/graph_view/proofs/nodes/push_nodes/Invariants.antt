use Rattle.std.proofs.Common.{length}
use Rattle.std.specs.Prelude.{string_bytes}
use Rattle.graph_view.proofs.NodeLemmas.{AreSaid}
use Rattle.graph_view.proofs.nodes.push_nodes.Given as goal

abbrev pub invariant-loop-name : goal.invariant-loop-name
invariant-loop-name l = AreSaid l.fn.graph.entries l.graph.entries (string_bytes l.fn.text) (string_bytes l.text)

abbrev pub decreases-loop-name : goal.decreases-loop-name
decreases-loop-name l = length l.graph.entries
