use Rattle.graph_nodes.proofs.Scattered.{IsParting, IsScattering}
use Rattle.graph_nodes.proofs.removing.scatter.Given as goal

abbrev pub invariant-loop-s : goal.invariant-loop-s
invariant-loop-s l = IsParting l.slots l.s-index l.fn.node l.node × IsScattering l.slots l.s-index l.initial.members l.members
