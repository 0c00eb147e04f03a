use Rattle.graph_nodes.proofs.Found.{AreLookedAt}
use Rattle.graph_nodes.proofs.search.look_back_all.Given as goal

abbrev pub invariant-loop-c : goal.invariant-loop-c
invariant-loop-c l = AreLookedAt l.arcs.cells l.node l.cells l.c-index l.fn.found l.found
