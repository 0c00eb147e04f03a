-- The cells whose arcs lead into a node.
use Rattle.std.specs.Prelude.{◌≡◌, ℕ, ◌/◌, ◌<◌, ◌⊎◌, Bool, IsTrue, IsFalse, List, length, Option, None, Some}
use Rattle.oper_core.specs.State.{is_among}
use Rattle.number_lists.specs.Lists.{Lists, list_at, AreAsMany, OthersStay, IsPushed}
use Rattle.graph_nodes.specs.Arcs.{arc_at, node_at, held_at, IsFromOutside}

-- each node's list has the cells whose arcs lead into it from another node, and of those without an arc or from within it some
pub record AreInto (arcs : List (Option ℕ)) (node : List ℕ) (into : Lists) : Type 0 where
  pub there : (c j : ℕ) → arc_at arcs c ≡ Some j → (node_at node (c / 8) ≡ node_at node j → ⊥) → IsTrue (is_among c (list_at into.lists (node_at node j)))
  pub only : (m c : ℕ) → IsTrue (is_among c (list_at into.lists m)) → (c < length arcs) × ((j : ℕ) → arc_at arcs c ≡ Some j → node_at node j ≡ m)

-- where the node has cells, the arc of one of them comes from another node
abbrev pub IsLive : List (Option ℕ) → List ℕ → ℕ → Lists → Type 0
IsLive arcs node m into = (c : ℕ) → IsTrue (is_among c (list_at into.lists m)) → (d : ℕ) × IsTrue (is_among d (list_at into.lists m)) × IsFromOutside arcs node d m

-- the lists that are not empty are those of the nodes into which an arc leads from another
pub record AreLed (arcs : List (Option ℕ)) (node : List ℕ) (into : Lists) : Type 0 where
  pub leads : AreInto arcs node into
  pub live : (m : ℕ) → IsLive arcs node m into

-- a cell in a list that has no arc is one of a slot that is not held
abbrev pub AreLost : List (Option ℕ) → List Bool → Lists → Type 0
AreLost arcs held into = (m c : ℕ) → IsTrue (is_among c (list_at into.lists m)) → arc_at arcs c ≡ None → IsFalse (held_at held (c / 8))

-- of the node's cells some are gone, none with an arc from another node, and all are gone if there is none such
pub record IsSettled (arcs : List (Option ℕ)) (node : List ℕ) (m : ℕ) (old new : Lists) : Type 0 where
  pub kept : (c : ℕ) → IsTrue (is_among c (list_at old.lists m)) → IsFromOutside arcs node c m → IsTrue (is_among c (list_at new.lists m))
  pub fewer : (c : ℕ) → IsTrue (is_among c (list_at new.lists m)) → IsTrue (is_among c (list_at old.lists m))
  pub live : IsLive arcs node m new
  pub others : OthersStay old m new
  pub same : AreAsMany old new

-- these cells have lost their arcs, and no list has more cells
pub record AreCleared (Gone : ℕ → Type 0) (old new : List (Option ℕ)) (old_into new_into : Lists) : Type 0 where
  pub done : (c : ℕ) → Gone c → arc_at new c ≡ None
  pub rest : (c : ℕ) → (arc_at new c ≡ arc_at old c) ⊎ Gone c
  pub size : length new ≡ length old
  pub fewer : (m c : ℕ) → IsTrue (is_among c (list_at new_into.lists m)) → IsTrue (is_among c (list_at old_into.lists m))
  pub same : AreAsMany old_into new_into

-- the cell, which was in no list, stands in front of the node's list, if its arc comes from another node
abbrev pub IsPutBack : List (Option ℕ) → List ℕ → ℕ → ℕ → Lists → Lists → Type 0
IsPutBack arcs node c m old new = (IsFromOutside arcs node c m × IsPushed old m c new) ⊎ ((IsFromOutside arcs node c m → ⊥) × (new ≡ old))

-- those of the cells stand in the node's list, which was empty, whose arcs come from another node
pub record ArePutBack (arcs : List (Option ℕ)) (node : List ℕ) (m : ℕ) (cells : List ℕ) (old new : Lists) : Type 0 where
  pub kept : (c : ℕ) → IsTrue (is_among c cells) → IsFromOutside arcs node c m → IsTrue (is_among c (list_at new.lists m))
  pub only : (c : ℕ) → IsTrue (is_among c (list_at new.lists m)) → IsTrue (is_among c cells) × IsFromOutside arcs node c m
  pub others : OthersStay old m new
  pub same : AreAsMany old new
