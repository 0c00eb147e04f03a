use Rattle.std.proofs.Common.{take}
use Rattle.write_graph.specs.Steps.{AreWritersLed}
use Rattle.write_graph.proofs.linking.lead_writers.Given as goal

abbrev pub invariant-loop-x : goal.invariant-loop-x
invariant-loop-x l = AreWritersLed l.rows (take l.x-index l.objects) l.slot l.fn.graph l.graph
