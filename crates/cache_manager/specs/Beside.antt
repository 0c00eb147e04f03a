-- Nodes whose one object is copied.
use Rattle.std.specs.Prelude.{◌≡◌, ◌<◌, ℕ, Bool, Some, List, slice_get}
use Rattle.install_order.specs.declared.entry.Entry.{Entry}
use Rattle.write_graph.specs.Graph.{IsNodeNamed, IsSingleIdentity}

-- the first object of the node's work is copied, and the node is not one identity write
abbrev pub HasCopied : List Entry → ℕ → ℕ → List ℕ → Type 0
HasCopied entries n copied work = (x : ℕ) × (slice_get work 0 ≡ Some x) × (x < copied) × ((node : ℕ → Bool) → IsNodeNamed entries n node → IsSingleIdentity entries n node → ⊥)

-- where it is copied, the node is one identity write
abbrev pub IsFresh : List Entry → ℕ → ℕ → List ℕ → Type 0
IsFresh entries n copied work = (x : ℕ) → slice_get work 0 ≡ Some x → x < copied → (node : ℕ → Bool) → IsNodeNamed entries n node → IsSingleIdentity entries n node
