use Rattle.std.proofs.Common.{take}
use Rattle.graph_nodes.specs.Merge.{AreMoved, gathered}
use Rattle.graph_nodes.proofs.merging.join_lists.Given as goal

abbrev pub invariant-loop-i : goal.invariant-loop-i
invariant-loop-i l = AreMoved (gathered (take l.i l.taken.members) l.one) l.fn.lists l.lists
