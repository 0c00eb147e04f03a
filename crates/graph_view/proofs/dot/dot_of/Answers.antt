use Rattle.graph_view.proofs.DotLemmas.{is_graph}
use Rattle.graph_view.proofs.dot.dot_of.Goals as goal

pub returns : goal.returns
returns c =
    is_graph c.args.entries.now c.args.graph.now.entries _ _ _ _ _ c.requires c.new-text.ensures.bytes c.in_ok-write.ensures.bytes c.in_ok-push_nodes.ensures c.in_ok-push_edges.ensures c.in_ok-write-2.ensures.bytes
