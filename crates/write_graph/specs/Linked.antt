-- What the graph of slots and the rows by object keep.
use Rattle.std.specs.Prelude.{◌≡◌, ℕ, ◌+◌, ◌*◌, ◌/◌, ◌-◌, ◌^◌, ◌≤◌, ◌<◌, min, Bool, IsTrue, List, length, Option, Some, MatchOption}
use Rattle.oper_core.specs.State.{is_among}
use Rattle.install_order.specs.declared.entry.Entry.{Entry}
use Rattle.install_order.specs.Order.{Access, IsLastWriter}
use Rattle.install_order.specs.Arcs.{Arc}
use Rattle.install_order.specs.Digraph.{AreNodes}
use Rattle.install_order.specs.More.{NoWriter, NoWriterFrom}
use Rattle.graph_nodes.specs.Arcs.{arc_at, node_at, IsArc, held_at}
use Rattle.graph_nodes.specs.Named.{Graph}
use Rattle.write_graph.specs.Cells.{reads_of, writes_of, slot_access, IsReadCell, write_cell, WriteLeads, CellLeads}
use Rattle.write_graph.specs.Rows.{last_cell_of, last_of, waiting_of, Rows, last_held}

-- the cells report the few edges, and the first cell for each write leads to the next write of its object
pub record AreArcs (a : Access) (entries : List Entry) (arcs : List (Option ℕ)) : Type 0 where
  pub only : (c p : ℕ) → arc_at arcs c ≡ Some p → CellLeads a entries c p
  pub all : (o p : ℕ) → Arc a o p → IsArc arcs o p
  pub next : (x o p : ℕ) → WriteLeads a x o p → arc_at arcs (write_cell entries o x) ≡ Some p

-- the rows report the last writers, and who reads the last version
pub record AreRows (a : Access) (entries : List Entry) (held : List Bool) (rows : Rows) : Type 0 where
  pub below : (x w : ℕ) → last_of rows x ≡ Some w → w < length entries
  pub cells : (x c : ℕ) → last_cell_of rows x ≡ Some c → c ≡ write_cell entries (c / 8) x
  pub last : (x : ℕ) → MatchOption (last_held held rows x) (NoWriter a x) (λ w. IsLastWriter a x w)
  pub all : (x o : ℕ) → IsTrue (a.reads o x) → NoWriterFrom a x o → (c : ℕ) × (c / 8 ≡ o) × IsTrue (is_among c (waiting_of rows x))
  pub only : (x c : ℕ) → IsTrue (is_among c (waiting_of rows x)) → IsReadCell entries c x × (IsTrue (held_at held (c / 8)) → NoWriterFrom a x (c / 8))

-- no entry accesses more than its cells can report
abbrev pub AreFew : List Entry → Type 0
AreFew entries = (i : ℕ) → (length (reads_of entries i) ≤ 4) × (length (writes_of entries i) ≤ 4)

-- the graph and the rows are those of the entries
pub record AreLinked (entries : List Entry) (graph : Graph) (rows : Rows) : Type 0 where
  pub slots : length graph.node ≡ length entries
  pub held : length graph.held ≡ length entries
  pub small : length entries ≤ 2 ^ 28
  pub cells : rows.cells ≡ 8 * length entries
  pub few : AreFew entries
  pub nodes : AreNodes (IsArc graph.arcs) (node_at graph.node)
  pub arcs : AreArcs (slot_access entries graph.held) entries graph.arcs
  pub rows_are : AreRows (slot_access entries graph.held) entries graph.held rows

-- there is memory for so many more entries: for their links, in the table of entries, in that of first writers, of which each has four at most,
-- and for all slots of a node
pub record HasRoom (room slots link_room entry_room first_room member_cap : ℕ) : Type 0 where
  pub links : room ≤ link_room
  pub entries : room ≤ entry_room
  pub firsts : 4 * room ≤ first_room
  pub members : slots + room ≤ member_cap

-- for so many entries there is memory
abbrev pub links_room : Graph → Rows → ℕ
links_room graph rows = min (min graph.room (2 ^ 28 - length graph.node)) (min (rows.row_room / 8) (rows.cell_room / 8))
