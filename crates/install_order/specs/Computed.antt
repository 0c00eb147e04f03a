-- Edges, nodes, names and flush sets, computed where all LSNs and objects are below given ones.
use Rattle.std.specs.Prelude.{ℕ, zero, suc, ◌==◌, nat_lt, nat_le, not, Bool, false, ◌&&◌, ◌||◌, IsTrue, ◌<◌, if◌then◌else◌}
use Rattle.install_order.specs.Order.{Access}

-- all accesses are of numbers and objects below these
pub record IsWithin (a : Access) (objects end : ℕ) : Type 0 where
  pub writes_lsn : (n x : ℕ) → IsTrue (a.writes n x) → n < end
  pub writes_object : (n x : ℕ) → IsTrue (a.writes n x) → x < objects
  pub reads_lsn : (n x : ℕ) → IsTrue (a.reads n x) → n < end

-- one of the numbers below n passes
abbrev pub some_below : ℕ → (ℕ → Bool) → Bool
some_below zero p = false
some_below (suc n) p = p n || some_below n p

-- the least LSN below n that passes, or n
abbrev pub least_below : ℕ → (ℕ → Bool) → ℕ
least_below zero p = zero
least_below (suc n) p = if nat_lt (least_below n p) n then least_below n p else (if p n then n else suc n)

-- an edge goes from o to p over x
abbrev pub edge_over : Access → ℕ → ℕ → ℕ → ℕ → Bool
edge_over a end o p x = a.writes p x && ((nat_lt o p && (a.reads o x || a.writes o x)) || (nat_lt p o && (a.reads o x && (not (some_below o (λ q. nat_lt p q && a.writes q x)) && some_below end (λ q. nat_le o q && a.writes q x)))))

-- an edge goes from o to p
abbrev pub edge_test : Access → ℕ → ℕ → ℕ → ℕ → Bool
edge_test a objects end o p = some_below objects (λ x. edge_over a end o p x)

-- there is a walk of edges from o to p whose stations between them are below k
abbrev pub reach : (ℕ → ℕ → Bool) → ℕ → ℕ → ℕ → Bool
reach e zero o p = (o == p) || e o p
reach e (suc k) o p = reach e k o p || (reach e k o k && reach e k k p)

-- the node that has the LSN one in it
abbrev pub node_of : (ℕ → ℕ → Bool) → ℕ → ℕ → ℕ → Bool
node_of e end one n = reach e end one n && reach e end n one

-- the last writer of x is in the node
abbrev pub is_flushed : Access → ℕ → (ℕ → Bool) → ℕ → Bool
is_flushed a end node x = some_below end (λ n. node n && (a.writes n x && not (some_below end (λ q. nat_lt n q && a.writes q x))))
