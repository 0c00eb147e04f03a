-- What a search against the arcs has found.
use Rattle.std.specs.Prelude.{◌≡◌, ℕ, ◌/◌, ◌*◌, ◌+◌, ◌<◌, ◌≤◌, ◌++◌, ◌⊎◌, ◌↔◌, IsTrue, List, length, Option, None, slice_index}
use Rattle.oper_core.specs.State.{is_among}
use Rattle.install_order.specs.Digraph.{Walk}
use Rattle.number_lists.specs.Lists.{Lists, list_at}
use Rattle.number_lists.specs.Members.{Members}
use Rattle.graph_nodes.specs.Arcs.{arc_at, node_at, IsStartOf, IsStartAmong}

-- the numbers that were there stand where they stood
pub record AreKept (old new : Members) : Type 0 where
  pub kept : (more : List ℕ) × (new.members ≡ old.members ++ more)
  pub end : new.end ≡ old.end
  pub room : old.room ≤ new.room

-- where the cell has an arc, its start is found too
pub record IsLookedBack (arcs : List (Option ℕ)) (node : List ℕ) (c : ℕ) (old new : Members) : Type 0 where
  pub there : (n : ℕ) → IsTrue (is_among n new.members) ↔ (IsTrue (is_among n old.members) ⊎ IsStartOf arcs node c n)
  pub same : AreKept old new

-- the starts of the cells' arcs are found too
pub record AreLookedBack (arcs : List (Option ℕ)) (node cells : List ℕ) (old new : Members) : Type 0 where
  pub there : (n : ℕ) → IsTrue (is_among n new.members) ↔ (IsTrue (is_among n old.members) ⊎ IsStartAmong arcs node cells n)
  pub same : AreKept old new

-- an arc leads from the node m to the node n
abbrev pub IsBehind : List (Option ℕ) → List ℕ → Lists → ℕ → ℕ → Type 0
IsBehind arcs node into m n = IsStartAmong arcs node (list_at into.lists n) m

-- what is past n is found too, if n is not where the search stops
pub record IsExpanded (arcs : List (Option ℕ)) (node : List ℕ) (into : Lists) (n stop : ℕ) (old new : Members) : Type 0 where
  pub sound : (m : ℕ) → IsTrue (is_among m new.members) → IsTrue (is_among m old.members) ⊎ IsBehind arcs node into m n
  pub closed : (n ≡ stop → ⊥) → (m : ℕ) → IsBehind arcs node into m n → IsTrue (is_among m new.members)
  pub same : AreKept old new

-- v and all that reaches it is found, without a look past the stop
pub record IsSearched (arcs : List (Option ℕ)) (node : List ℕ) (into : Lists) (v stop : ℕ) (found : List ℕ) : Type 0 where
  pub start : IsTrue (is_among v found)
  pub sound : (m : ℕ) → IsTrue (is_among m found) → Walk (IsBehind arcs node into) m v
  pub closed : (n m : ℕ) → IsTrue (is_among n found) → (n ≡ stop → ⊥) → IsBehind arcs node into m n → IsTrue (is_among m found)

-- the search once the first so many of the found nodes were expanded
pub record IsSearching (arcs : List (Option ℕ)) (node : List ℕ) (into : Lists) (v stop next : ℕ) (found : List ℕ) : Type 0 where
  pub start : IsTrue (is_among v found)
  pub sound : (m : ℕ) → IsTrue (is_among m found) → Walk (IsBehind arcs node into) m v
  pub closed : (k m : ℕ) → k < next → (slice_index found k ≡ stop → ⊥) → IsBehind arcs node into m (slice_index found k) → IsTrue (is_among m found)
  pub within : next ≤ length found

-- the slot m stands for its node, and its cells are there
pub record IsOwn (arcs : List (Option ℕ)) (node : List ℕ) (m : ℕ) : Type 0 where
  pub self : node_at node m ≡ m
  pub slot : m < length node
  pub cells : 8 * m + 8 ≤ length arcs

-- none of the slot's cells has an arc
abbrev pub HasNoArcs : List (Option ℕ) → ℕ → Type 0
HasNoArcs arcs i = (c : ℕ) → c / 8 ≡ i → arc_at arcs c ≡ None

-- the node m is one slot, which has no arcs
abbrev pub IsBare : List (Option ℕ) → Lists → ℕ → Type 0
IsBare arcs members m = (length (list_at members.lists m) ≡ 1) × HasNoArcs arcs m

-- the next of the found nodes is done: a step against the arcs
pub record IsStepBack (arcs : List (Option ℕ)) (node : List ℕ) (into : Lists) (stop old_next new_next : ℕ) (old new : Members) : Type 0 where
  pub step : IsExpanded arcs node into (slice_index old.members old_next) stop old new
  pub next : new_next ≡ old_next + 1
