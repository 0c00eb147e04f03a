use Rattle.std.proofs.Common.{take}
use Rattle.write_graph.specs.Steps.{AreAnswered}
use Rattle.write_graph.proofs.linking.answer_all.Given as goal

abbrev pub invariant-loop-x : goal.invariant-loop-x
invariant-loop-x l = AreAnswered l.objects (take l.x-index l.objects) l.slot l.fn.graph l.fn.rows l.graph l.rows
