-- The parts of a text are a graph.
use Rattle.std.proofs.Common.{◌≡◌, ◌∙◌, ap, subst, ℕ, List, [], ◌++◌}
use Rattle.std.specs.Prelude.{codes}
use Rattle.std.specs.List.{flat_map}
use Rattle.install_order.specs.declared.entry.Entry.{Entry}
use Rattle.graph_view.specs.Nodes.{Node, AreNodes}
use Rattle.graph_view.specs.Dot.{node_text, edges_from, IsGraph}
use Rattle.graph_view.proofs.EdgeLemmas.{edge_exactly}

pub is_graph : (entries in_graph : List Entry) (empty head with_nodes with_edges whole : List ℕ) → in_graph ≡ entries
    → empty ≡ [] → head ≡ empty ++ codes "digraph write_graph {\n"
    → (nodes : List Node) × AreNodes in_graph nodes × (with_nodes ≡ head ++ flat_map node_text nodes)
    → with_edges ≡ with_nodes ++ flat_map (λ e. edges_from entries e.lsn) entries
    → whole ≡ with_edges ++ codes "}\n" → IsGraph entries whole
is_graph entries in_graph empty head with_nodes with_edges whole same none begun (nodes, are, said) edges ended = record {
  nodes = nodes;
  are_nodes = subst (λ (es : List Entry). AreNodes es nodes) same are;
  text_is = ended ∙ ap (λ t. t ++ codes "}\n") (edges ∙ ap (λ t. t ++ flat_map (λ e. edges_from entries e.lsn) entries) (said ∙ ap (λ t. t ++ flat_map node_text nodes) (begun ∙ ap (λ t. t ++ codes "digraph write_graph {\n") none)));
  edges = edge_exactly entries;
}
