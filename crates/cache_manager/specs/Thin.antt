-- Thin nodes of a store: minimal ones that have at most one object to flush.
use Rattle.std.specs.Prelude.{◌≡◌, ◌≤◌, ℕ, Bool, true, List, length}
use Rattle.install_order.specs.Order.{NoEdgeInto, flush_set_of}
use Rattle.install_order.specs.Entries.{accesses}
use Rattle.write_graph.specs.Graph.{IsNodeNamed, IsLeast, Lists}
use Rattle.dirty_cache.specs.Contents.{is_dirty}
use Rattle.running_store.specs.Parts.{Volatile}

-- the node has to flush the object, which is a dirty one of its flush set
abbrev pub HasToFlush : Volatile → (ℕ → Bool) → ℕ → Type 0
HasToFlush it node x = flush_set_of (accesses it.entries) node x × (is_dirty it.objects.cache x ≡ true)

-- these are the objects that it has to flush, rising
abbrev pub IsWork : Volatile → (ℕ → Bool) → List ℕ → Type 0
IsWork it node work = Lists (HasToFlush it node) work

-- n names the node, into which no edge leads, and it has at most one object to flush
pub record IsThin (it : Volatile) (n : ℕ) (node : ℕ → Bool) : Type 0 where
  pub named : IsNodeNamed it.entries n node
  pub no_edge : NoEdgeInto (accesses it.entries) node
  pub few : (x y : ℕ) → HasToFlush it node x → HasToFlush it node y → x ≡ y

abbrev pub NamesThin : Volatile → ℕ → Type 0
NamesThin it n = (node : ℕ → Bool) × IsThin it n node

-- n is the least name of a thin node, and this is what the node has to flush
pub record IsLeastThin (it : Volatile) (n : ℕ) (work : List ℕ) : Type 0 where
  pub least : IsLeast (NamesThin it) n
  pub is_work : (node : ℕ → Bool) → IsNodeNamed it.entries n node → IsWork it node work
  pub few : length work ≤ 1
