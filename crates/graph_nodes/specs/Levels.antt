-- The levels of nodes: no arc leads to a lower one.
use Rattle.std.specs.Prelude.{◌≡◌, ℕ, ◌/◌, ◌*◌, ◌+◌, ◌^◌, ◌<◌, ◌≤◌, ◌⊎◌, Bool, IsTrue, List, [], length, Option, None, Some, slice_index_or}
use Rattle.oper_core.specs.State.{is_among}
use Rattle.install_order.specs.Digraph.{AreNodes}
use Rattle.number_lists.specs.Lists.{Lists, list_at, AreAsMany}
use Rattle.graph_nodes.specs.Arcs.{arc_at, node_at, AreBelow, AreEnds, IsArc}
use Rattle.graph_nodes.specs.Into.{AreLost}
use Rattle.graph_nodes.specs.Merge.{IsFiled}

-- the level of the node m, which is nought where the table has none
abbrev pub level_at : List ℕ → ℕ → ℕ
level_at level m = slice_index_or level m 0

-- no arc leads to a lower level, and each node's list has the cells whose arcs lead into it from another node of its level, and of those without an arc or from within it some
pub record AreLevelled (arcs : List (Option ℕ)) (node level : List ℕ) (near : Lists) : Type 0 where
  pub rise : (c j : ℕ) → arc_at arcs c ≡ Some j → level_at level (node_at node (c / 8)) ≤ level_at level (node_at node j)
  pub there : (c j : ℕ) → arc_at arcs c ≡ Some j → (node_at node (c / 8) ≡ node_at node j → ⊥) → level_at level (node_at node (c / 8)) ≡ level_at level (node_at node j) → IsTrue (is_among c (list_at near.lists (node_at node j)))
  pub only : (m c : ℕ) → IsTrue (is_among c (list_at near.lists m)) → (c < length arcs) × ((j : ℕ) → arc_at arcs c ≡ Some j → (node_at node j ≡ m) × (level_at level (node_at node (c / 8)) ≡ level_at level m))

-- the levels fit the arcs, and a cell in a list that has no arc is one of a slot that is not held
pub record HaveLevels (arcs : List (Option ℕ)) (node : List ℕ) (held : List Bool) (level : List ℕ) (near : Lists) : Type 0 where
  pub levelled : AreLevelled arcs node level near
  pub lost : AreLost arcs held near
  pub lists : length near.lists ≡ length node
  pub items : near.items ≡ length arcs

-- there is memory for so many more levels and lists
pub record HasLevelRoom (room slots capacity : ℕ) (near : Lists) : Type 0 where
  pub level : slots + room ≤ capacity
  pub lists : room ≤ near.list_room
  pub items : 8 * room ≤ near.item_room

-- all tables are as long as there are slots, or eight times as long
pub record AreSized (arcs : List (Option ℕ)) (node : List ℕ) (members near : Lists) : Type 0 where
  pub cells : length arcs ≡ 8 * length node
  pub small : length node ≤ 2 ^ 28
  pub member_lists : length members.lists ≡ length node
  pub member_items : members.items ≡ length node
  pub near_lists : length near.lists ≡ length node
  pub near_items : near.items ≡ length arcs

-- what it takes to put cells into lists: each is listed as a slot's, and there are as many lists and members as slots
pub record IsLinkable (arcs : List (Option ℕ)) (node : List ℕ) (members near : Lists) : Type 0 where
  pub ends : AreEnds arcs node (length node)
  pub below : AreBelow node (length node)
  pub filed : IsFiled node members
  pub sizes : AreSized arcs node members near

-- what a search for the way between two nodes reads, where there is memory for so many cells, and for so many levels
pub record AreReady (arcs : List (Option ℕ)) (node : List ℕ) (members : Lists) (level : List ℕ) (near : Lists) (room level_room : ℕ) : Type 0 where
  pub nodes : AreNodes (IsArc arcs) (node_at node)
  pub levelled : AreLevelled arcs node level near
  pub linkable : IsLinkable arcs node members near
  pub fit : length arcs ≤ room
  pub deep : length node ≤ level_room

-- the levels fit still, and a cell without an arc is in no list that it was not in
pub record AreStillLevelled (arcs : List (Option ℕ)) (node old new : List ℕ) (old_near new_near : Lists) : Type 0 where
  pub levelled : AreLevelled arcs node new new_near
  pub lost : (m c : ℕ) → IsTrue (is_among c (list_at new_near.lists m)) → arc_at arcs c ≡ None → IsTrue (is_among c (list_at old_near.lists m))
  pub same : AreAsMany old_near new_near

-- the node w is at the level at least, and what was raised is at it
pub record IsRaisedTo (w l : ℕ) (old new : List ℕ) : Type 0 where
  pub reached : l ≤ level_at new w
  pub each : (m : ℕ) → (level_at new m ≡ level_at old m) ⊎ (level_at new m ≡ l)

-- these nodes are at the level, and their lists are empty
pub record AreLifted (ahead : List ℕ) (l : ℕ) (old new : List ℕ) (old_near new_near : Lists) : Type 0 where
  pub done : (m : ℕ) → IsTrue (is_among m ahead) → level_at new m ≡ l
  pub rest : (m : ℕ) → (IsTrue (is_among m ahead) → ⊥) → level_at new m ≡ level_at old m
  pub cleared : (m : ℕ) → IsTrue (is_among m ahead) → list_at new_near.lists m ≡ []
  pub others : (m : ℕ) → (IsTrue (is_among m ahead) → ⊥) → list_at new_near.lists m ≡ list_at old_near.lists m
  pub same : AreAsMany old_near new_near

-- the cell has an arc to the node m from another one of its level
pub record IsNear (arcs : List (Option ℕ)) (node level : List ℕ) (c m : ℕ) : Type 0 where
  pub to : ℕ
  pub arc : arc_at arcs c ≡ Some to
  pub end : node_at node to ≡ m
  pub apart : node_at node (c / 8) ≡ m → ⊥
  pub even : level_at level (node_at node (c / 8)) ≡ level_at level m

-- those of these cells that have arcs from other nodes of one level are in the lists too
pub record AreLinked (Cells : ℕ → Type 0) (arcs : List (Option ℕ)) (node level : List ℕ) (old new : Lists) : Type 0 where
  pub there : (m c : ℕ) → Cells c → IsNear arcs node level c m → IsTrue (is_among c (list_at new.lists m))
  pub kept : (m c : ℕ) → IsTrue (is_among c (list_at old.lists m)) → IsTrue (is_among c (list_at new.lists m))
  pub only : (m c : ℕ) → IsTrue (is_among c (list_at new.lists m)) → IsTrue (is_among c (list_at old.lists m)) ⊎ (Cells c × IsNear arcs node level c m)
  pub same : AreAsMany old new

-- no list has more cells, and those with an arc from another node are still there
pub record ArePruned (arcs : List (Option ℕ)) (node : List ℕ) (old new : Lists) : Type 0 where
  pub kept : (m c j : ℕ) → IsTrue (is_among c (list_at old.lists m)) → arc_at arcs c ≡ Some j → (node_at node (c / 8) ≡ m → ⊥) → IsTrue (is_among c (list_at new.lists m))
  pub fewer : (m c : ℕ) → IsTrue (is_among c (list_at new.lists m)) → IsTrue (is_among c (list_at old.lists m))
  pub same : AreAsMany old new
