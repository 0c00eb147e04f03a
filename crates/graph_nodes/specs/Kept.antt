-- What a graph of slots keeps.
use Rattle.std.specs.Prelude.{◌≡◌, ℕ, ◌*◌, ◌^◌, ◌<◌, ◌≤◌, ◌⊎◌, ◌↔◌, Bool, true, false, IsTrue, ◌+◌, ◌++◌, ◌∷◌, replicate, List, [], length, Option, None, Some}
use Rattle.oper_core.specs.State.{is_among}
use Rattle.install_order.specs.Digraph.{AreNodes, IsOnWay, Walk}
use Rattle.number_lists.specs.Lists.{Lists, list_at}
use Rattle.number_lists.specs.Members.{Members}
use Rattle.number_lists.specs.Marks.{mark_at}
use Rattle.graph_nodes.specs.Arcs.{AreBelow, AreCells, arc_at, node_at, name_at, held_at, IsArc}
use Rattle.graph_nodes.specs.Into.{AreLed, AreLost}
use Rattle.graph_nodes.specs.Named.{Graph, Naming, AreNamed, AreNamesMerged}
use Rattle.graph_nodes.specs.Merge.{IsFiled, gathered, AreRenamed}

-- each node is stood for by a slot of its own
abbrev pub AreOwn : List ℕ → Type 0
AreOwn node = (i : ℕ) → node_at node (node_at node i) ≡ node_at node i

-- all numbers are in their range
pub record AreInRange (arcs : List (Option ℕ)) (node : List ℕ) (held : List Bool) (name : List ℕ) (members into : Lists) : Type 0 where
  pub cells : length arcs ≡ 8 * length node
  pub ends : (c j : ℕ) → arc_at arcs c ≡ Some j → j < length node
  pub nodes : (i : ℕ) → i < length node → node_at node i < length node
  pub holds : length held ≡ length node
  pub names : length name ≡ length node
  pub member_lists : length members.lists ≡ length node
  pub into_lists : length into.lists ≡ length node
  pub member_items : members.items ≡ length node
  pub into_items : into.items ≡ length arcs
  pub small : length node ≤ 2 ^ 28

-- the slots with one node are those that reach each other, and all tables agree
pub record IsKept (arcs : List (Option ℕ)) (node : List ℕ) (held : List Bool) (name : List ℕ) (members into : Lists) : Type 0 where
  pub nodes : AreNodes (IsArc arcs) (node_at node)
  pub own : AreOwn node
  pub filed : IsFiled node members
  pub named : AreNamed node name
  pub led : AreLed arcs node into
  pub lost : AreLost arcs held into
  pub range : AreInRange arcs node held name members into

-- the marked names are those of the nodes whose slots are held, and those marked as minimal are those of nodes without cells
pub record IsMarked (node : List ℕ) (held : List Bool) (into : Lists) (n : Naming) : Type 0 where
  pub names : (k : ℕ) → IsTrue (mark_at n.names k) ↔ (IsTrue (held_at held k) × (name_at n.name (node_at node k) ≡ k))
  pub told : (k : ℕ) → IsTrue (mark_at n.minimal k) ↔ (IsTrue (mark_at n.names k) × (list_at into.lists (node_at node k) ≡ []))

-- with so many slots, there is memory for so many more: these are the capacities, and the room of what tells its own
pub record HasRoom (room slots arc_room node_cap held_cap scratch_cap : ℕ) (name_room : Naming) (member_room into_room : Lists) (found_room ahead_room : Members) : Type 0 where
  pub arcs : room ≤ arc_room
  pub node : slots + room ≤ node_cap
  pub held : slots + room ≤ held_cap
  pub name : room ≤ name_room.room
  pub scratch : 8 * (slots + room) ≤ scratch_cap
  pub member_lists : room ≤ member_room.list_room
  pub members : room ≤ member_room.item_room
  pub into_lists : room ≤ into_room.list_room
  pub into : 8 * room ≤ into_room.item_room
  pub found : room ≤ found_room.room
  pub ahead : room ≤ ahead_room.room

-- the numbers end where they did, and there is as much room
pub record IsWide (old new : Members) : Type 0 where
  pub end : new.end ≡ old.end
  pub room : old.room ≤ new.room

-- two sets end where they did, and where both had room for so many more, they have it still
pub record AreAsWide (old_found old_ahead new_found new_ahead : Members) : Type 0 where
  pub found_end : new_found.end ≡ old_found.end
  pub ahead_end : new_ahead.end ≡ old_ahead.end
  pub room : (n : ℕ) → n ≤ old_found.room → n ≤ old_ahead.room → (n ≤ new_found.room) × (n ≤ new_ahead.room)

-- what a search against the arcs reads: each node is below the end, the lists are those of the nodes, and none is longer than the room
pub record IsSearchable (arcs : List (Option ℕ)) (node : List ℕ) (into : Lists) (end room : ℕ) : Type 0 where
  pub lists : end ≤ length into.lists
  pub cells : (n : ℕ) → AreCells arcs node (list_at into.lists n)
  pub below : AreBelow node end
  pub fit : into.items ≤ room

-- the nodes v and w are one, or no walk leads from w to v
abbrev pub IsApart : List (Option ℕ) → List ℕ → ℕ → ℕ → Type 0
IsApart arcs node v w = (v ≡ w) ⊎ ((i j : ℕ) → node_at node i ≡ w → node_at node j ≡ v → Walk (IsArc arcs) i j → ⊥)

-- these are the nodes of all slots that walks from w to v go through, of which there are some
pub record AreOnWalks (arcs : List (Option ℕ)) (node : List ℕ) (v w : ℕ) (ns : List ℕ) : Type 0 where
  pub start : IsTrue (is_among w ns)
  pub slots : (n : ℕ) → IsTrue (is_among n ns) → (s : ℕ) × (s < length node) × (node_at node s ≡ n)
  pub way : (vs ws i : ℕ) → node_at node vs ≡ v → node_at node ws ≡ w → IsTrue (is_among (node_at node i) ns) ↔ IsOnWay (IsArc arcs) vs ws i

-- the nodes that walks from w to v go through, none where w does not reach v or is v
abbrev pub AreOnWay : List (Option ℕ) → List ℕ → ℕ → ℕ → List ℕ → Type 0
AreOnWay arcs node v w ns = (IsApart arcs node v w × (ns ≡ [])) ⊎ AreOnWalks arcs node v w ns

-- where the answer is that w reaches v, these are the nodes on the way, and else it does not
abbrev pub IsToldWay : List (Option ℕ) → List ℕ → ℕ → ℕ → List ℕ → Bool → Type 0
IsToldWay arcs node v w ns true = AreOnWalks arcs node v w ns
IsToldWay arcs node v w ns false = IsApart arcs node v w

-- where the answer is that w reaches v, these nodes are those, and else there are none
abbrev pub IsKeptWay : Bool → List ℕ → List ℕ → Type 0
IsKeptWay true way ns = ns ≡ way
IsKeptWay false way ns = ns ≡ []

-- these nodes, if there are any, are one
abbrev pub AreGathered : List ℕ → List ℕ → List ℕ → Naming → Naming → Lists → Lists → Lists → Lists → Type 0
AreGathered ns old_node new_node old_names new_names old_members new_members old_into new_into =
    (one : ℕ) × ((ns ≡ []) ⊎ IsTrue (is_among one ns)) × AreNamesMerged ns one old_names new_names × AreRenamed (gathered ns one) old_node new_node old_members new_members old_into new_into

-- the nodes on the way from w to v are one
abbrev pub AreJoined : List (Option ℕ) → ℕ → ℕ → List ℕ → List ℕ → Naming → Naming → Lists → Lists → Lists → Lists → Type 0
AreJoined arcs v w old_node new_node old_names new_names old_members new_members old_into new_into =
    (ns : List ℕ) × AreOnWay arcs old_node v w ns × AreGathered ns old_node new_node old_names new_names old_members new_members old_into new_into

-- the cells of one more slot, which have no arcs
abbrev pub no_arcs : ℕ → List (Option ℕ)
no_arcs n = replicate n None

-- one more slot, which is held, whose cells have no arcs, and which is a node by itself
pub record IsSlotAdded (old new : Graph) : Type 0 where
  pub arcs : new.arcs ≡ old.arcs ++ no_arcs 8
  pub node : new.node ≡ old.node ++ length old.node ∷ []
  pub held : new.held ≡ old.held ++ true ∷ []
  pub room : old.room ≡ new.room + 1

-- so many more cells, which have no arcs and are in no list
pub record AreCellsAdded (n : ℕ) (old new : List (Option ℕ)) (old_into new_into : Lists) : Type 0 where
  pub arcs : new ≡ old ++ no_arcs n
  pub here : (j : ℕ) → list_at new_into.lists j ≡ list_at old_into.lists j
  pub lists : length new_into.lists ≡ length old_into.lists
  pub items : new_into.items ≡ old_into.items + n
  pub list_room : new_into.list_room ≡ old_into.list_room
  pub item_room : old_into.item_room ≤ new_into.item_room + n
