use Rattle.std.proofs.Common.{◌<◌, All}
use Rattle.write_graph.specs.Graph.{lsns}
use Rattle.graph_tests.proofs.million.add_puts.Given as goal

abbrev pub invariant-loop-k : goal.invariant-loop-k
invariant-loop-k l = All (λ n. n < l.k) (lsns l.graph.entries)
