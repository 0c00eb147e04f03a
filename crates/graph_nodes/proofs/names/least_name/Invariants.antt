use Rattle.graph_nodes.proofs.Least.{IsLeastSoFar}
use Rattle.graph_nodes.proofs.names.least_name.Given as goal

abbrev pub invariant-loop-i : goal.invariant-loop-i
invariant-loop-i l = IsLeastSoFar l.taken.members l.name.items l.i l.least
