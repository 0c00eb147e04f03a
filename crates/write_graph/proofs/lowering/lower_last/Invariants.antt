use Rattle.write_graph.proofs.Lowered.{AreLowering}
use Rattle.write_graph.proofs.lowering.lower_last.Given as goal

abbrev pub invariant-loop-slot : goal.invariant-loop-slot
invariant-loop-slot l = AreLowering l.n l.slot l.fn.lsns.items l.lsns.items
