-- The first writers of the objects.
use Rattle.std.specs.Prelude.{◌≡◌, ℕ, ◌<◌, IsTrue, IsFalse, IfSome, List, Option, Some, MatchOption, if◌then◌else◌}
use Rattle.std.specs.Option.{unwrap_or}
use Rattle.oper_core.specs.State.{is_among}
use Rattle.install_order.specs.declared.entry.Entry.{Entry}
use Rattle.install_order.specs.Order.{Access}
use Rattle.install_order.specs.Arcs.{IsWriterAfter, NoneBefore}
use Rattle.install_order.specs.More.{NoWriter}
use Rattle.graph_nodes.specs.Arcs.{node_at}
use Rattle.graph_nodes.specs.Named.{Graph}
use Rattle.write_graph.specs.Cells.{slot_access}

-- n is the first that writes x
abbrev pub IsFirstWriter : Access → ℕ → ℕ → Type 0
IsFirstWriter a x n = IsTrue (a.writes n x) × NoneBefore a x n

-- each object that is written has its first writer, and no other object has one
abbrev pub AreFirsts : Access → (ℕ → Option ℕ) → Type 0
AreFirsts a firsts = (x : ℕ) → MatchOption (firsts x) (NoWriter a x) (λ n. IsFirstWriter a x n)

-- the next after n that writes x, if there is one
abbrev pub IsNextWriter : Access → ℕ → ℕ → Option ℕ → Type 0
IsNextWriter a x n next = MatchOption next ((q : ℕ) → n < q → IsFalse (a.writes q x)) (λ p. IsWriterAfter a x n p)

-- those of the objects that had no first writer have the slot
abbrev pub noted : List ℕ → ℕ → (ℕ → Option ℕ) → ℕ → Option ℕ
noted objects slot firsts x = if is_among x objects then Some (unwrap_or (firsts x) slot) else firsts x

-- slots of the node m alone write x before its first writer, and where there is none, all that write x are of the node
abbrev pub IsPassed : List Entry → Graph → ℕ → ℕ → Option ℕ → Type 0
IsPassed entries g m x first = MatchOption first
    ((q : ℕ) → IsTrue ((slot_access entries g.held).writes q x) → node_at g.node q ≡ m)
    (λ n. IsTrue ((slot_access entries g.held).writes n x) × ((q : ℕ) → q < n → IsTrue ((slot_access entries g.held).writes q x) → node_at g.node q ≡ m))

-- the same of each object
abbrev pub ArePassed : List Entry → Graph → ℕ → (ℕ → Option ℕ) → Type 0
ArePassed entries g m firsts = (x : ℕ) → IsPassed entries g m x (firsts x)

-- it is not of the node m
abbrev pub IsOutside : Graph → ℕ → Option ℕ → Type 0
IsOutside g m first = IfSome first (λ n. node_at g.node n ≡ m → ⊥)
