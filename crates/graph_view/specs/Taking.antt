-- A node goes out of a graph into a text.
use Rattle.std.specs.Prelude.{◌≡◌, ℕ, ◌<◌, ◌++◌, ◌↔◌, not, Bool, List, length}
use Rattle.std.specs.List.{filter}
use Rattle.install_order.specs.declared.entry.Entry.{Entry}
use Rattle.install_order.specs.Order.{flush_set_of}
use Rattle.install_order.specs.Entries.{accesses}
use Rattle.write_graph.specs.Graph.{IsNodeNamed}
use Rattle.graph_view.specs.Nodes.{Node, IsRow}
use Rattle.graph_view.specs.Dot.{node_text}

-- the node of this name went out of the entries, and its row is added to the text; the other nodes stay, with their flush sets
pub record TakesNode (old new : List Entry) (name : ℕ) (before after : List ℕ) : Type 0 where
  pub set : ℕ → Bool
  pub node : Node
  pub row : IsRow old set node
  pub is_named : node.name ≡ name
  pub text : after ≡ before ++ node_text node
  pub entries : new ≡ filter (λ e. not (set e.lsn)) old
  pub others : (n : ℕ) (other : ℕ → Bool) → IsNodeNamed new n other → IsNodeNamed old n other
  pub flush_sets : (n : ℕ) (other : ℕ → Bool) (x : ℕ) → IsNodeNamed new n other → flush_set_of (accesses new) other x ↔ flush_set_of (accesses old) other x
  pub fewer : length new < length old
