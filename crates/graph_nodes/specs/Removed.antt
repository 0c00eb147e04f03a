-- What a removal does.
use Rattle.std.specs.Prelude.{◌≡◌, ℕ, ◌*◌, ◌/◌, IsTrue, IsFalse, Bool, List, length, Option, None}
use Rattle.oper_core.specs.State.{is_among}
use Rattle.number_lists.specs.Lists.{Lists}
use Rattle.graph_nodes.specs.Arcs.{arc_at, node_at, held_at, AreEnds}
use Rattle.graph_nodes.specs.Into.{AreLed}
use Rattle.graph_nodes.specs.Named.{Graph, Naming, AreNamed, AreTold}

-- these slots are not held any more, and nothing else has changed
pub record AreReleased (slots : List ℕ) (old new : List Bool) : Type 0 where
  pub done : (i : ℕ) → IsTrue (is_among i slots) → IsFalse (held_at new i)
  pub rest : (i : ℕ) → (IsTrue (is_among i slots) → ⊥) → held_at new i ≡ held_at old i
  pub size : length new ≡ length old

-- each of these slots is said of itself, and nothing else has changed
pub record AreAlone (slots old new : List ℕ) : Type 0 where
  pub done : (i : ℕ) → IsTrue (is_among i slots) → node_at new i ≡ i
  pub rest : (i : ℕ) → (IsTrue (is_among i slots) → ⊥) → node_at new i ≡ node_at old i
  pub size : length new ≡ length old

-- the slots of the node m are held no more, have no arcs and are nodes by themselves; all else is as it was
pub record IsRemoved (old : Graph) (m : ℕ) (new : Graph) : Type 0 where
  pub arcs_gone : (c : ℕ) → node_at old.node (c / 8) ≡ m → arc_at new.arcs c ≡ None
  pub arcs_left : (c : ℕ) → (node_at old.node (c / 8) ≡ m → ⊥) → arc_at new.arcs c ≡ arc_at old.arcs c
  pub held_gone : (i : ℕ) → node_at old.node i ≡ m → IsFalse (held_at new.held i)
  pub held_left : (i : ℕ) → (node_at old.node i ≡ m → ⊥) → held_at new.held i ≡ held_at old.held i
  pub node_gone : (i : ℕ) → node_at old.node i ≡ m → node_at new.node i ≡ i
  pub node_left : (i : ℕ) → (node_at old.node i ≡ m → ⊥) → node_at new.node i ≡ node_at old.node i
  pub cells : length new.arcs ≡ length old.arcs
  pub slots : length new.node ≡ length old.node
  pub room : new.room ≡ old.room

-- the lists and the names are those of the nodes, and all have their sizes
pub record IsInOrder (arcs : List (Option ℕ)) (node : List ℕ) (into : Lists) (n : Naming) : Type 0 where
  pub cells : length arcs ≡ 8 * length node
  pub lists : length into.lists ≡ length node
  pub size : length n.name ≡ length node
  pub ends : AreEnds arcs node (length into.lists)
  pub led : AreLed arcs node into
  pub named : AreNamed node n.name
  pub told : AreTold node into n
