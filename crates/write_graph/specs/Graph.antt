-- The nodes of a list of entries, each named by its least LSN.
use Rattle.std.specs.Prelude.{◌==◌, ◌&&◌, ◌≡◌, ℕ, ◌≤◌, Bool, ◌↔◌, IsTrue, List, map, length}
use Rattle.std.specs.List.{list_any}
use Rattle.std.specs.List.Sorted.{IsStrictlyIncreasing}
use Rattle.oper_core.specs.State.{is_among}
use Rattle.install_order.specs.declared.entry.Entry.{Entry}
use Rattle.install_order.specs.Order.{IsNode, IsName, NoEdgeInto}
use Rattle.install_order.specs.Entries.{accesses}

-- what contracts see of a write graph: its entries, and how many more there is memory for
pub record Graph : Type 0 where
  pub entries : List Entry
  pub room : ℕ

-- the LSNs of the entries, in their order
abbrev pub lsns : List Entry → List ℕ
lsns entries = map (λ e. e.lsn) entries

-- the set is a node of the entries, and n, which is the LSN of an entry, is the least in it
pub record IsNodeNamed (entries : List Entry) (n : ℕ) (node : ℕ → Bool) : Type 0 where
  pub held : IsTrue (is_among n (lsns entries))
  pub is_node : IsNode (accesses entries) node
  pub is_name : IsName node n

-- n names a node of the entries
abbrev pub NamesNode : List Entry → ℕ → Type 0
NamesNode entries n = (node : ℕ → Bool) × IsNodeNamed entries n node

-- n names a node of the entries into which no edge leads from outside
abbrev pub NamesMinimal : List Entry → ℕ → Type 0
NamesMinimal entries n = (node : ℕ → Bool) × IsNodeNamed entries n node × NoEdgeInto (accesses entries) node

-- n is the least LSN with the property
abbrev pub IsLeast : (ℕ → Type 0) → ℕ → Type 0
IsLeast P n = P n × ((k : ℕ) → P k → n ≤ k)

-- the list rises, and it has exactly the LSNs with the property
pub record Lists (P : ℕ → Type 0) (xs : List ℕ) : Type 0 where
  pub rising : IsStrictlyIncreasing xs
  pub exactly : (k : ℕ) → IsTrue (is_among k xs) ↔ P k

-- so many numbers have the property
abbrev pub IsCount : (ℕ → Type 0) → ℕ → Type 0
IsCount P count = (xs : List ℕ) × Lists P xs × (count ≡ length xs)

-- the node has the LSN n alone, which is that of an identity write
abbrev pub IsSingleIdentity : List Entry → ℕ → (ℕ → Bool) → Type 0
IsSingleIdentity entries n node = IsTrue (list_any (λ e. (e.lsn == n) && e.identity) entries) × ((k : ℕ) → IsTrue (node k) → k ≡ n)
