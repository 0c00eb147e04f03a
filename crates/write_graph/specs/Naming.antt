-- The slots that name nodes.
use Rattle.std.specs.Prelude.{◌≡◌, ℕ, ◌<◌, Bool, ◌↔◌, IsTrue, List, length, slice_index}
use Rattle.install_order.specs.declared.entry.Entry.{Entry}
use Rattle.install_order.specs.Order.{NoEdgeInto}
use Rattle.install_order.specs.Entries.{accesses}
use Rattle.install_order.specs.Arcs.{Arc}
use Rattle.install_order.specs.Digraph.{AreNodes}
use Rattle.graph_nodes.specs.Arcs.{IsArc, node_at, held_at}
use Rattle.graph_nodes.specs.Named.{Graph, IsName, IsMinimal}
use Rattle.write_graph.specs.Graph.{lsns}
use Rattle.write_graph.specs.Places.{NeverFall}
use Rattle.write_graph.specs.Cells.{slot_access, held_entries}

-- the LSNs by slot never fall, and each after a held slot is greater than that of the held one
pub record AreClimbing (held : List Bool) (ns : List ℕ) : Type 0 where
  pub never_fall : NeverFall ns
  pub above_held : (i j : ℕ) → IsTrue (held_at held i) → i < j → j < length ns → slice_index ns i < slice_index ns j

-- the slots are those of the entries, whose LSNs climb
pub record AreSlots (entries : List Entry) (graph : Graph) : Type 0 where
  pub rising : AreClimbing graph.held (lsns entries)
  pub held : length graph.held ≡ length entries
  pub arcs : (o p : ℕ) → Arc (slot_access entries graph.held) o p ↔ IsArc graph.arcs o p
  pub nodes : AreNodes (IsArc graph.arcs) (node_at graph.node)

-- the slot has the LSN n and is the name of the node, whose LSNs are those of its slots that are held
pub record IsSlotOf (entries : List Entry) (graph : Graph) (n : ℕ) (node : ℕ → Bool) : Type 0 where
  pub slot : ℕ
  pub below : slot < length entries
  pub name : IsName graph slot
  pub lsn : slice_index (lsns entries) slot ≡ n
  pub members : (k : ℕ) → IsTrue (held_at graph.held k) → IsTrue (node (slice_index (lsns entries) k)) ↔ (node_at graph.node k ≡ node_at graph.node slot)
  pub minimal : NoEdgeInto (accesses (held_entries graph.held entries)) node ↔ IsMinimal graph.arcs graph.node (node_at graph.node slot)
