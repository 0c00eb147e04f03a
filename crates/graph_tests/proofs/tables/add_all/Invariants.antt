use Rattle.std.proofs.Common.{◌≡◌, ◌+◌, ◌<◌, All}
use Rattle.write_graph.specs.Graph.{lsns}
use Rattle.graph_tests.proofs.tables.add_all.Given as goal

abbrev pub invariant-loop-operation : goal.invariant-loop-operation
invariant-loop-operation l = All (λ n. n < l.lsn) (lsns l.graph.entries) × (l.lsn ≡ l.initial.lsn + l.operation-index)
