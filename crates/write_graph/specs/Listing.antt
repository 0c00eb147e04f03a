-- What is listed of slots: their LSNs, and the objects that their entries write.
use Rattle.std.specs.Prelude.{◌≡◌, ℕ, ◌<◌, ◌==◌, Bool, false, ◌↔◌, IsTrue, List, length, slice_index, Option, None, Some}
use Rattle.oper_core.specs.State.{is_among}
use Rattle.install_order.specs.declared.entry.Entry.{Entry}
use Rattle.graph_nodes.specs.Arcs.{node_at}
use Rattle.graph_nodes.specs.Named.{Graph}
use Rattle.write_graph.specs.Graph.{lsns}
use Rattle.write_graph.specs.Cells.{writes_of}
use Rattle.write_graph.specs.Naming.{IsSlotOf}

-- k is the LSN of the entry of one of the slots
abbrev pub IsLsnOf : List Entry → List ℕ → ℕ → Type 0
IsLsnOf entries slots k = (i : ℕ) × IsTrue (is_among i slots) × (slice_index (lsns entries) i ≡ k)

-- the entry of one of the slots writes x
abbrev pub IsWrittenBy : List Entry → List ℕ → ℕ → Type 0
IsWrittenBy entries slots x = (i : ℕ) × IsTrue (is_among i slots) × IsTrue (is_among x (writes_of entries i))

-- there is an entry for each slot
abbrev pub AreBelow : List ℕ → List Entry → Type 0
AreBelow slots entries = (i : ℕ) → IsTrue (is_among i slots) → i < length entries

-- the slots are those of the node, whose name is the LSN n
pub record AreSlotsOf (entries : List Entry) (graph : Graph) (n : ℕ) (slots : List ℕ) (node : ℕ → Bool) : Type 0 where
  pub slot : IsSlotOf entries graph n node
  pub among : (i : ℕ) → IsTrue (is_among i slots) ↔ (node_at graph.node i ≡ node_at graph.node slot.slot)

-- the slot w is of one node with the slot
abbrev pub is_with : Graph → ℕ → Option ℕ → Bool
is_with graph slot None = false
is_with graph slot (Some w) = node_at graph.node w == node_at graph.node slot
