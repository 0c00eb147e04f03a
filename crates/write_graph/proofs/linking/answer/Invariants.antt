use Rattle.std.proofs.Common.{length}
use Rattle.write_graph.specs.Rows.{waiting_of}
use Rattle.write_graph.proofs.Led.{IsAnswering}
use Rattle.write_graph.proofs.linking.answer.Given as goal

abbrev pub invariant-cells : goal.invariant-cells
invariant-cells l = IsAnswering l.x l.to l.fn.graph l.fn.rows l.graph l.rows

abbrev pub decreases-cells : goal.decreases-cells
decreases-cells l = length (waiting_of l.rows l.x)
