use Rattle.std.proofs.Common.{arith}
use Rattle.write_graph.proofs.Loops.{get-index}
use Rattle.write_graph.proofs.Led.{writers-on}
use Rattle.write_graph.proofs.linking.lead_writers.Goals as goal

pub loop-x-preserved : goal.loop-x-preserved
loop-x-preserved c = writers-on c.args.rows.now c.args.objects.now c.args.slot c.loop-x.x-index _ c.args.graph.now c.loop-x.graph c.lead_writer.new.graph c.loop-x.invariant (get-index c.args.objects.now c.loop-x.x-index (omega (arith, c.loop-x-test.true))) c.lead_writer.ensures
