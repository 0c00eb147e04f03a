use Rattle.graph_nodes.proofs.Pruned.{IsPruning}
use Rattle.graph_nodes.proofs.pruning.put_back.Given as goal

abbrev pub invariant-loop-c : goal.invariant-loop-c
invariant-loop-c l = IsPruning l.arcs.cells l.node l.n l.cells l.c-index l.initial.into l.into
