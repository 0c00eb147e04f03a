use Rattle.graph_nodes.proofs.Scattered.{IsReleasing}
use Rattle.graph_nodes.proofs.removing.release.Given as goal

abbrev pub invariant-loop-s : goal.invariant-loop-s
invariant-loop-s l = IsReleasing l.slots l.s-index l.fn.held l.held
