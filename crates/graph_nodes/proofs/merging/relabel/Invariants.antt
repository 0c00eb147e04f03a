use Rattle.graph_nodes.proofs.Joined.{IsRelabelling}
use Rattle.graph_nodes.proofs.merging.relabel.Given as goal

abbrev pub invariant-loop-m : goal.invariant-loop-m
invariant-loop-m l = IsRelabelling l.slots l.one l.m-index l.fn.node l.node
