use Rattle.write_graph.proofs.Led.{answering-on}
use Rattle.write_graph.proofs.linking.answer.Goals as goal

pub cells-preserved : goal.cells-preserved
cells-preserved c = answering-on c.args.x c.args.to c.in-Some.cell c.args.graph.now c.cells.graph c.lead_reader.new.graph c.args.rows.now c.cells.rows c.take.new.self c.cells.invariant c.in-Some.ensures c.lead_reader.ensures
