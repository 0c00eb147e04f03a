use Rattle.std.proofs.Common.{◌<◌}
use Rattle.std.specs.Prelude.{IsTrue}
use Rattle.oper_core.specs.State.{is_among}
use Rattle.graph_nodes.proofs.merging.largest.Given as goal

abbrev pub invariant-loop-i : goal.invariant-loop-i
invariant-loop-i l = IsTrue (is_among l.one l.taken.members) × (l.one < l.taken.end)
