-- The write graph of a list of entries in the DOT language: a cluster for each node, with its numbers, and an arrow for each edge.
use Rattle.std.specs.Prelude.{ℕ, ◌++◌, ◌≡◌, ◌↔◌, IsTrue, List, [], ◌∷◌, codes, if◌then◌else◌}
use Rattle.std.specs.List.{flat_map}
use Rattle.std.specs.Fmt.{decimal}
use Rattle.install_order.specs.declared.entry.Entry.{Entry}
use Rattle.graph_view.specs.declared.kind.Kind.{Kind}
use Rattle.graph_view.specs.declared.kind.Kind.TheVariants.{ReadWrite, WriteWrite, LostVersion}
use Rattle.graph_view.specs.Edges.{IsEdge, kind_text, has_edge}
use Rattle.graph_view.specs.Nodes.{Node, AreNodes}

-- what is flushed
abbrev pub object_text : ℕ → List ℕ
object_text x = codes " " ++ decimal x

abbrev pub flush_text : List ℕ → List ℕ
flush_text [] = codes " nothing"
flush_text (x ∷ objects) = flat_map object_text (x ∷ objects)

-- a number of a node
abbrev pub member_text : ℕ → List ℕ
member_text n = codes " " ++ decimal n ++ codes ";"

abbrev pub node_text : Node → List ℕ
node_text node =
    codes "  subgraph cluster_" ++ decimal node.name ++ codes " { label=\"flushes" ++ flush_text node.flush_set ++ codes "\";"
    ++ flat_map member_text node.members ++ codes " }\n"

-- the edge of the kind from o to p, if there is one
abbrev pub edge_text : List Entry → ℕ → ℕ → Kind → List ℕ
edge_text entries o p kind =
    if has_edge entries kind o p
    then codes "  " ++ decimal o ++ codes " -> " ++ decimal p ++ codes " [" ++ kind_text kind ++ codes "];\n"
    else []

-- the edges from o to p
abbrev pub edges_between : List Entry → ℕ → ℕ → List ℕ
edges_between entries o p = edge_text entries o p ReadWrite ++ edge_text entries o p WriteWrite ++ edge_text entries o p LostVersion

-- the edges from o
abbrev pub edges_from : List Entry → ℕ → List ℕ
edges_from entries o = flat_map (λ e. edges_between entries o e.lsn) entries

-- nodes, and all edges
abbrev pub dot_of : List Node → List Entry → List ℕ
dot_of nodes entries =
    codes "digraph write_graph {\n" ++ flat_map node_text nodes ++ flat_map (λ e. edges_from entries e.lsn) entries ++ codes "}\n"

-- the text says the nodes of the entries and their edges; the test of an edge is what the order defines
pub record IsGraph (entries : List Entry) (text : List ℕ) : Type 0 where
  pub nodes : List Node
  pub are_nodes : AreNodes entries nodes
  pub text_is : text ≡ dot_of nodes entries
  pub edges : (kind : Kind) (o p : ℕ) → IsTrue (has_edge entries kind o p) ↔ IsEdge entries kind o p
