-- The nodes of a list of entries, in the order in which they are installed.
use Rattle.std.specs.Prelude.{ℕ, not, Bool, IsTrue, List, [], ◌∷◌}
use Rattle.std.specs.List.{filter}
use Rattle.install_order.specs.declared.entry.Entry.{Entry}
use Rattle.install_order.specs.Order.{flush_set_of}
use Rattle.install_order.specs.Entries.{accesses}
use Rattle.write_graph.specs.Graph.{IsNodeNamed, NamesMinimal, IsLeast, Lists}

-- a node: its least number, its numbers, and the objects that are flushed with it
pub record Node : Type 0 where
  pub name : ℕ
  pub members : List ℕ
  pub flush_set : List ℕ

-- a row, from its parts
abbrev pub row : ℕ → List ℕ → List ℕ → Node
row name members flush_set = record { name = name; members = members; flush_set = flush_set }

-- the set is a node of the entries, and this is its row
pub record IsRow (entries : List Entry) (set : ℕ → Bool) (node : Node) : Type 0 where
  pub named : IsNodeNamed entries node.name set
  pub members : Lists (λ n. IsTrue (set n)) node.members
  pub flush_set : Lists (flush_set_of (accesses entries) set) node.flush_set

-- the rows are those of nodes of all entries; each is the minimal node with the least name once those before it are installed,
-- which the rest is without, and after the last one no entry is left
pub data AreInstalled (all : List Entry) : List Entry → List Node → Type 0 where
  none : AreInstalled all [] []
  next : {rest : List Entry} {nodes : List Node} (set : ℕ → Bool) (node : Node) → IsRow all set node → IsLeast (NamesMinimal rest) node.name
      → AreInstalled all (filter (λ e. not (set e.lsn)) rest) nodes → AreInstalled all rest (node ∷ nodes)

-- the rows of the nodes of the entries
abbrev pub AreNodes : List Entry → List Node → Type 0
AreNodes entries nodes = AreInstalled entries entries nodes
