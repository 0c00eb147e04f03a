-- What a search along the arcs has found, of nodes below a level.
use Rattle.std.specs.Prelude.{◌≡◌, ℕ, ◌/◌, ◌<◌, ◌≤◌, ◌⊎◌, IsTrue, List, length, Option, Some, slice_index}
use Rattle.oper_core.specs.State.{is_among}
use Rattle.number_lists.specs.Members.{Members}
use Rattle.graph_nodes.specs.Arcs.{arc_at, node_at}
use Rattle.graph_nodes.specs.Levels.{level_at}
use Rattle.graph_nodes.specs.Search.{AreKept}

-- an arc leads from the node m to the node n
abbrev pub LeadsTo : List (Option ℕ) → List ℕ → ℕ → ℕ → Type 0
LeadsTo arcs node m n = (c : ℕ) × (j : ℕ) × (node_at node (c / 8) ≡ m) × (arc_at arcs c ≡ Some j) × (node_at node j ≡ n)

-- the nodes below the level to which the arcs of these cells lead are found too, and no node above it
pub record AreFollowed (Cells : ℕ → Type 0) (arcs : List (Option ℕ)) (node level : List ℕ) (l : ℕ) (old new : Members) : Type 0 where
  pub there : (c j : ℕ) → Cells c → arc_at arcs c ≡ Some j → level_at level (node_at node j) < l → IsTrue (is_among (node_at node j) new.members)
  pub low : (k : ℕ) → IsTrue (is_among k new.members) → IsTrue (is_among k old.members) ⊎ (level_at level k < l)
  pub same : AreKept old new

-- w is found, and all nodes below the level to which arcs from the first so many found nodes lead
pub record IsGoingOn (arcs : List (Option ℕ)) (node level : List ℕ) (l w next : ℕ) (ahead : List ℕ) : Type 0 where
  pub start : IsTrue (is_among w ahead)
  pub low : (n : ℕ) → IsTrue (is_among n ahead) → level_at level n < l
  pub closed : (k q : ℕ) → k < next → LeadsTo arcs node (slice_index ahead k) q → level_at level q < l → IsTrue (is_among q ahead)
  pub within : next ≤ length ahead

-- w is found, and all nodes below the level that it reaches through such nodes
pub record AreAhead (arcs : List (Option ℕ)) (node level : List ℕ) (l w : ℕ) (ahead : List ℕ) : Type 0 where
  pub start : IsTrue (is_among w ahead)
  pub low : (n : ℕ) → IsTrue (is_among n ahead) → level_at level n < l
  pub closed : (m n : ℕ) → IsTrue (is_among m ahead) → LeadsTo arcs node m n → level_at level n < l → IsTrue (is_among n ahead)
