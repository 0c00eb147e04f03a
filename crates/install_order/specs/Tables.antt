-- Worked tables: small lists of entries, with all their edges and nodes.
use Rattle.std.specs.Prelude.{ℕ, ◌==◌, not, Bool, true, false, ◌&&◌, IsTrue, ◌↔◌, List, [], ◌∷◌, ◌++◌}
use Rattle.std.specs.List.{list_any}
use Rattle.oper_core.specs.State.{is_among}
use Rattle.install_order.specs.declared.entry.Entry.{Entry}
use Rattle.install_order.specs.Order.{Access, within, Edge, IsNode, NoEdgeInto, flush_set_of}
use Rattle.install_order.specs.Entries.{accesses, set_of}

-- an edge of a table
pub record Arrow : Type 0 where
  pub from : ℕ
  pub to : ℕ

-- a node of a table
pub record Row : Type 0 where
  pub members : List ℕ
  pub flush_set : List ℕ

-- the edge from o to p is one of them
abbrev pub is_listed : List Arrow → ℕ → ℕ → Bool
is_listed arrows o p = list_any (λ e. (e.from == o) && (e.to == p)) arrows

-- the rows are nodes with their flush sets, each of them minimal once the earlier ones are gone; nobody else writes
abbrev pub AreNodes : Access → List ℕ → List Row → Type 0
AreNodes a earlier [] = (n x : ℕ) → IsTrue (a.writes n x) → IsTrue (is_among n earlier)
AreNodes a earlier (row ∷ rows) =
    IsNode a (set_of row.members)
    × NoEdgeInto (within (λ n. not (set_of earlier n)) a) (set_of row.members)
    × ((x : ℕ) → IsTrue (is_among x row.flush_set) ↔ flush_set_of a (set_of row.members) x)
    × AreNodes a (earlier ++ row.members) rows

-- the arrows are all edges of the entries, and the rows all their nodes, in an order in which they may be installed
pub record IsTable (entries : List Entry) (arrows : List Arrow) (rows : List Row) : Type 0 where
  pub edges : (o p : ℕ) → IsTrue (is_listed arrows o p) ↔ Edge (accesses entries) o p
  pub nodes : AreNodes (accesses entries) [] rows

-- an entry of no identity write, from its LSN, what it reads and what it writes
abbrev pub entry : ℕ → List ℕ → List ℕ → Entry
entry n reads writes = record { lsn = n; reads = reads; writes = writes; identity = false }

-- an edge
abbrev pub arrow : ℕ → ℕ → Arrow
arrow from to = record { from = from; to = to }

-- a node, from its members and its flush set
abbrev pub node : List ℕ → List ℕ → Row
node members flush_set = record { members = members; flush_set = flush_set }

-- the operations of the tables, by their LSNs
abbrev pub put : ℕ → ℕ → Entry
put n x = entry n [] (x ∷ [])

abbrev pub identity_write : ℕ → ℕ → Entry
identity_write n x = record (put n x) { identity = true }

abbrev pub copy : ℕ → ℕ → ℕ → Entry
copy n from to = entry n (from ∷ []) (to ∷ [])

abbrev pub append : ℕ → ℕ → ℕ → Entry
append n from to = entry n (from ∷ to ∷ []) (to ∷ [])

abbrev pub swap : ℕ → ℕ → ℕ → Entry
swap n left right = entry n (left ∷ right ∷ []) (left ∷ right ∷ [])
