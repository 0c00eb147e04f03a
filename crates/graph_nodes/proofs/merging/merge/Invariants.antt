use Rattle.std.proofs.Common.{◌≤◌, take}
use Rattle.std.specs.Vec.{vec_capacity}
use Rattle.graph_nodes.specs.Merge.{AreMerged}
use Rattle.graph_nodes.proofs.merging.merge.Given as goal

abbrev pub invariant-loop-i : goal.invariant-loop-i
invariant-loop-i l = AreMerged (take l.i l.taken.members) l.one l.fn.node l.node l.fn.members l.members l.fn.into l.into × (vec_capacity l.fn.slots ≤ vec_capacity l.slots)
