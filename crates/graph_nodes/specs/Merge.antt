-- Nodes that are merged into one.
use Rattle.std.specs.Prelude.{◌≡◌, ℕ, ◌<◌, ◌==◌, if◌then◌else◌, IsTrue, List, length}
use Rattle.oper_core.specs.State.{is_among}
use Rattle.number_lists.specs.Lists.{Lists, list_at, AreAsMany}
use Rattle.graph_nodes.specs.Arcs.{node_at}

-- each slot is among the members of its node, and of no other
pub record IsFiled (node : List ℕ) (members : Lists) : Type 0 where
  pub there : (i : ℕ) → i < length node → IsTrue (is_among i (list_at members.lists (node_at node i)))
  pub only : (m i : ℕ) → IsTrue (is_among i (list_at members.lists m)) → (i < length node) × (node_at node i ≡ m)

-- `one` stands for the slots, and nothing else has changed
pub record IsRelabelled (slots : List ℕ) (one : ℕ) (old new : List ℕ) : Type 0 where
  pub done : (i : ℕ) → IsTrue (is_among i slots) → node_at new i ≡ one
  pub rest : (i : ℕ) → (IsTrue (is_among i slots) → ⊥) → node_at new i ≡ node_at old i
  pub size : length new ≡ length old

-- n is called one
abbrev pub renamed : ℕ → ℕ → ℕ → ℕ
renamed n one m = if m == n then one else m

-- each of these is called one
abbrev pub gathered : List ℕ → ℕ → ℕ → ℕ
gathered ns one m = if is_among m ns then one else m

-- what was in a list is in that of its new name, and nothing else is in any
pub record AreMoved (name : ℕ → ℕ) (old new : Lists) : Type 0 where
  pub there : (m k : ℕ) → IsTrue (is_among k (list_at old.lists m)) → IsTrue (is_among k (list_at new.lists (name m)))
  pub only : (m k : ℕ) → IsTrue (is_among k (list_at new.lists m)) → (was : ℕ) × IsTrue (is_among k (list_at old.lists was)) × (name was ≡ m)
  pub same : AreAsMany old new

-- the nodes have new names
pub record AreRenamed (name : ℕ → ℕ) (old_node new_node : List ℕ) (old_members new_members old_into new_into : Lists) : Type 0 where
  pub node : (i : ℕ) → i < length old_node → node_at new_node i ≡ name (node_at old_node i)
  pub size : length new_node ≡ length old_node
  pub filed : IsFiled new_node new_members
  pub members : AreAsMany old_members new_members
  pub into : AreMoved name old_into new_into

-- the node n is merged into one
abbrev pub IsAbsorbed : ℕ → ℕ → List ℕ → List ℕ → Lists → Lists → Lists → Lists → Type 0
IsAbsorbed n one = AreRenamed (renamed n one)

-- all these nodes are merged into one
abbrev pub AreMerged : List ℕ → ℕ → List ℕ → List ℕ → Lists → Lists → Lists → Lists → Type 0
AreMerged ns one = AreRenamed (gathered ns one)
