-- What of the found nodes walks from a node lead to.
use Rattle.std.specs.Prelude.{◌≡◌, ℕ, ◌⊎◌, IsTrue, List, Option, length}
use Rattle.oper_core.specs.State.{is_among}
use Rattle.install_order.specs.Digraph.{Walk}
use Rattle.number_lists.specs.Members.{Members}
use Rattle.graph_nodes.specs.Arcs.{IsStartOf}
use Rattle.graph_nodes.specs.Search.{AreKept}

-- the cell has an arc that starts in one of the nodes
abbrev pub StartsIn : List (Option ℕ) → List ℕ → ℕ → List ℕ → Type 0
StartsIn arcs node c taken = (m : ℕ) × IsTrue (is_among m taken) × IsStartOf arcs node c m

-- one of the cells has an arc that starts in one of the nodes
abbrev pub StartAmongIn : List (Option ℕ) → List ℕ → List ℕ → List ℕ → Type 0
StartAmongIn arcs node cells taken = (c : ℕ) × IsTrue (is_among c cells) × StartsIn arcs node c taken

-- n is taken too where a taken node is next to it, and no other is
pub record IsTakenUp (Next : ℕ → ℕ → Type 0) (n : ℕ) (old new : Members) : Type 0 where
  pub sound : (k : ℕ) → IsTrue (is_among k new.members) → IsTrue (is_among k old.members) ⊎ ((k ≡ n) × ((m : ℕ) × IsTrue (is_among m old.members) × Next m n))
  pub closed : (m : ℕ) → IsTrue (is_among m old.members) → Next m n → IsTrue (is_among n new.members)
  pub same : AreKept old new

-- what is new was found, and a walk leads to it from what was taken; where nothing is new, nothing is missing
pub record IsRoundDone (Next : ℕ → ℕ → Type 0) (found : List ℕ) (old new : Members) : Type 0 where
  pub sound : (k : ℕ) → IsTrue (is_among k new.members) → IsTrue (is_among k old.members) ⊎ (IsTrue (is_among k found) × ((m : ℕ) × IsTrue (is_among m old.members) × Walk Next m k))
  pub closed : length new.members ≡ length old.members → (m n : ℕ) → IsTrue (is_among m old.members) → IsTrue (is_among n found) → Next m n → IsTrue (is_among n old.members)
  pub same : AreKept old new

-- n is w, or it was found and a walk from w leads to it
abbrev pub IsSpreadTo : (ℕ → ℕ → Type 0) → ℕ → List ℕ → ℕ → Type 0
IsSpreadTo Next w found n = (n ≡ w) ⊎ (IsTrue (is_among n found) × Walk Next w n)

-- w is taken, and of what was found all that walks from w lead to
pub record IsSpread (Next : ℕ → ℕ → Type 0) (w : ℕ) (found taken : List ℕ) : Type 0 where
  pub start : IsTrue (is_among w taken)
  pub sound : (n : ℕ) → IsTrue (is_among n taken) → IsSpreadTo Next w found n
  pub closed : (m n : ℕ) → IsTrue (is_among m taken) → IsTrue (is_among n found) → Next m n → IsTrue (is_among n taken)
