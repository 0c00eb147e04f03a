-- The installation order: which numbered operations have to be installed before which.
use Rattle.std.specs.Prelude.{◌≡◌, ℕ, ◌<◌, ◌≤◌, Bool, ◌&&◌, IsTrue, IsFalse}

-- which numbered operation reads and which writes which object
pub record Access : Type 0 where
  pub reads : ℕ → ℕ → Bool
  pub writes : ℕ → ℕ → Bool

-- the same of the chosen operations alone
abbrev pub within : (ℕ → Bool) → Access → Access
within chosen a = record { reads = λ n x. chosen n && a.reads n x; writes = λ n x. chosen n && a.writes n x }

-- no operation outside `installed` reads or writes an object that a later installed one writes
abbrev pub IsClosed : Access → (ℕ → Bool) → Type 0
IsClosed a installed = (o p x : ℕ) → IsFalse (installed o) → IsTrue (installed p) → o < p → IsTrue (a.writes p x) → IsFalse (a.reads o x) × IsFalse (a.writes o x)

-- no operation outside `installed` accesses x, or the first that does reads it:
-- each of them that writes x has one of them at or before it that reads x
-- (the law exposed_is_first_reads has the usual wording)
abbrev pub IsExposed : Access → (ℕ → Bool) → ℕ → Type 0
IsExposed a installed x = (p : ℕ) → IsFalse (installed p) → IsTrue (a.writes p x) → (o : ℕ) × (o ≤ p) × IsFalse (installed o) × IsTrue (a.reads o x)

-- o has to be installed no later than p
pub data Edge (a : Access) (o p : ℕ) : Type 0 where
  -- o is before p, and reads what p writes
  Read_write : (x : ℕ) → o < p → IsTrue (a.reads o x) → IsTrue (a.writes p x) → Edge a o p
  -- o is before p, and both write one object
  Write_write : (x : ℕ) → o < p → IsTrue (a.writes o x) → IsTrue (a.writes p x) → Edge a o p
  -- o reads the version that p wrote, since none between them writes x, and o or a later one overwrites it
  Lost_version : (x later : ℕ) → p < o → IsTrue (a.writes p x) → ((q : ℕ) → p < q → q < o → IsFalse (a.writes q x)) → IsTrue (a.reads o x) → o ≤ later → IsTrue (a.writes later x) → Edge a o p

-- there is a walk of edges from o to p
pub data Reaches (a : Access) (o : ℕ) : ℕ → Type 0 where
  Here : Reaches a o o
  Then : (m p : ℕ) → Reaches a o m → Edge a m p → Reaches a o p

-- the set is one node: all that reach one of them and are reached from it
abbrev pub IsNode : Access → (ℕ → Bool) → Type 0
IsNode a node = (one : ℕ) × IsTrue (node one) × ((n : ℕ) → IsTrue (node n) → Reaches a one n × Reaches a n one) × ((n : ℕ) → Reaches a one n → Reaches a n one → IsTrue (node n))

-- a node is named by its least LSN
abbrev pub IsName : (ℕ → Bool) → ℕ → Type 0
IsName node name = IsTrue (node name) × ((n : ℕ) → IsTrue (node n) → name ≤ n)

-- no edge leads from outside into the set
abbrev pub NoEdgeInto : Access → (ℕ → Bool) → Type 0
NoEdgeInto a set = (o p : ℕ) → IsFalse (set o) → IsTrue (set p) → Edge a o p → ⊥

-- a node that may be installed next
abbrev pub IsMinimal : Access → (ℕ → Bool) → Type 0
IsMinimal a node = IsNode a node × NoEdgeInto a node

-- n is the last that writes x
abbrev pub IsLastWriter : Access → ℕ → ℕ → Type 0
IsLastWriter a x n = IsTrue (a.writes n x) × ((later : ℕ) → n < later → IsFalse (a.writes later x))

-- the objects whose last writer is in the node
abbrev pub flush_set_of : Access → (ℕ → Bool) → ℕ → Type 0
flush_set_of a node x = (n : ℕ) × IsTrue (node n) × IsLastWriter a x n

-- n reads nothing, writes x alone, and none after it writes x
pub record IsLastBlindWrite (a : Access) (x n : ℕ) : Type 0 where
  pub reads : (y : ℕ) → IsFalse (a.reads n y)
  pub only : (y : ℕ) → IsTrue (a.writes n y) → y ≡ x
  pub last : (p : ℕ) → n < p → IsFalse (a.writes p x)
