-- The names of nodes, and which nodes are minimal.
use Rattle.std.specs.Prelude.{◌≡◌, ℕ, zero, suc, ◌<◌, ◌≤◌, ◌⊎◌, ◌↔◌, ◌+◌, ◌++◌, ◌∷◌, Bool, IsTrue, IsFalse, List, [], length, Option}
use Rattle.oper_core.specs.State.{is_among}
use Rattle.number_lists.specs.Lists.{Lists, list_at}
use Rattle.number_lists.specs.Marks.{mark_at}
pub use Rattle.number_lists.specs.Marks.{AreListed, IsCount}
use Rattle.graph_nodes.specs.Arcs.{IsArc, node_at, name_at, held_at}

-- what contracts see of a graph: the arcs by cell, what stands for the node of each slot, which slots are held, and for how many more there is memory
pub record Graph : Type 0 where
  pub arcs : List (Option ℕ)
  pub node : List ℕ
  pub held : List Bool
  pub room : ℕ

-- no arc leads from another node into the node m
abbrev pub IsMinimal : List (Option ℕ) → List ℕ → ℕ → Type 0
IsMinimal arcs node m = (i j : ℕ) → IsArc arcs i j → node_at node j ≡ m → node_at node i ≡ m

-- the slot is held, and the least of its node
abbrev pub IsName : Graph → ℕ → Type 0
IsName g i = IsTrue (held_at g.held i) × ((j : ℕ) → node_at g.node j ≡ node_at g.node i → i ≤ j)

-- the slot is the name of a minimal node
abbrev pub NamesMinimal : Graph → ℕ → Type 0
NamesMinimal g i = IsName g i × IsMinimal g.arcs g.node (node_at g.node i)

-- n is the least number with the property
abbrev pub IsLeast : (ℕ → Type 0) → ℕ → Type 0
IsLeast P n = P n × ((k : ℕ) → P k → n ≤ k)

-- the table has the least slot of each node
pub record AreNamed (node name : List ℕ) : Type 0 where
  pub least : (i : ℕ) → name_at name (node_at node i) ≤ i
  pub member : (i : ℕ) → node_at node (name_at name (node_at node i)) ≡ node_at node i

-- what contracts see of the names: the name of each node, of which nodes the slots are held, which of these are minimal, and for how many more there is memory
pub record Naming : Type 0 where
  pub name : List ℕ
  pub names : List Bool
  pub minimal : List Bool
  pub room : ℕ

-- what contracts see of a table of names: the name of each node, and for how many more there is memory
pub record NameList : Type 0 where
  pub items : List ℕ
  pub room : ℕ

-- the names of the first so many nodes, each its own slot where the table has none
abbrev pub names_of : List ℕ → ℕ → List ℕ
names_of name zero = []
names_of name (suc n) = names_of name n ++ name_at name n ∷ []

-- each name is a slot
abbrev pub AreSlots : List ℕ → Type 0
AreSlots name = (m : ℕ) → m < length name → name_at name m < length name

-- k is the name of one of these nodes, and not the least
abbrev pub IsForgotten : List ℕ → List ℕ → ℕ → ℕ → Type 0
IsForgotten ns name least k = (m : ℕ) × IsTrue (is_among m ns) × (name_at name m ≡ k) × (k ≡ least → ⊥)

-- the names of these nodes but the least have no marks any more, and no other mark has changed
pub record AreForgotten (ns name : List ℕ) (least : ℕ) (old new : List Bool) : Type 0 where
  pub done : (k : ℕ) → IsForgotten ns name least k → IsFalse (mark_at new k)
  pub rest : (k : ℕ) → (mark_at new k ≡ mark_at old k) ⊎ IsForgotten ns name least k
  pub size : length new ≡ length old

-- the name of one is the least of those of the nodes that are merged into it, which has its mark still, and no other node's has changed
pub record AreNamesMerged (ns : List ℕ) (one : ℕ) (old new : Naming) : Type 0 where
  pub least : (m : ℕ) → IsTrue (is_among m ns) → name_at new.name one ≤ name_at old.name m
  pub from : IsTrue (is_among one ns) → (m : ℕ) × IsTrue (is_among m ns) × (name_at new.name one ≡ name_at old.name m)
  pub rest : (m : ℕ) → (IsTrue (is_among m ns) → ⊥) → name_at new.name m ≡ name_at old.name m
  pub size : length new.name ≡ length old.name
  pub names : AreForgotten ns old.name (name_at new.name one) old.names new.names
  pub minimal : AreForgotten ns old.name (name_at new.name one) old.minimal new.minimal
  pub room : new.room ≡ old.room

-- the node is said to be minimal where it is free and its slots are held, and nothing else has changed
pub record IsTold (m : ℕ) (is_free : Bool) (old new : Naming) : Type 0 where
  pub here : IsTrue (mark_at new.minimal (name_at old.name m)) ↔ (IsTrue is_free × IsTrue (mark_at old.names (name_at old.name m)))
  pub others : (k : ℕ) → (k ≡ name_at old.name m → ⊥) → mark_at new.minimal k ≡ mark_at old.minimal k
  pub name : new.name ≡ old.name
  pub names : new.names ≡ old.names
  pub room : new.room ≡ old.room

-- a name with a mark is that of its node, and it is marked as minimal exactly where the node's list is empty
pub record AreTold (node : List ℕ) (into : Lists) (n : Naming) : Type 0 where
  pub named : (k : ℕ) → IsTrue (mark_at n.names k) → name_at n.name (node_at node k) ≡ k
  pub told : (k : ℕ) → IsTrue (mark_at n.minimal k) ↔ (IsTrue (mark_at n.names k) × (list_at into.lists (node_at node k) ≡ []))

-- no names have changed, but which are marked as minimal
pub record AreNamesSame (old new : Naming) : Type 0 where
  pub name : new.name ≡ old.name
  pub names : new.names ≡ old.names
  pub room : new.room ≡ old.room

-- one node more, which is minimal and whose one slot is the next one
pub record IsNameAdded (old new : Naming) : Type 0 where
  pub name : new.name ≡ old.name ++ length old.name ∷ []
  pub names_here : IsTrue (mark_at new.names (length old.name))
  pub names_others : (k : ℕ) → (k ≡ length old.name → ⊥) → mark_at new.names k ≡ mark_at old.names k
  pub minimal_here : IsTrue (mark_at new.minimal (length old.name))
  pub minimal_others : (k : ℕ) → (k ≡ length old.name → ⊥) → mark_at new.minimal k ≡ mark_at old.minimal k
  pub room : old.room ≤ new.room + 1
