-- Arcs between slots: each slot has eight cells, and each cell at most one arc.
use Rattle.std.specs.Prelude.{◌≡◌, ℕ, ◌/◌, ◌<◌, Bool, false, IsTrue, List, length, Option, None, Some, IsSome, slice_index_or}
use Rattle.oper_core.specs.State.{is_among}

-- where the cell's arc leads
abbrev pub arc_at : List (Option ℕ) → ℕ → Option ℕ
arc_at arcs c = slice_index_or arcs c None

-- an arc leads from the slot i to the slot j
abbrev pub IsArc : List (Option ℕ) → ℕ → ℕ → Type 0
IsArc arcs i j = (c : ℕ) × (c / 8 ≡ i) × (arc_at arcs c ≡ Some j)

-- the slot that stands for the node of i, which is i itself where there is no such slot
abbrev pub node_at : List ℕ → ℕ → ℕ
node_at node i = slice_index_or node i i

-- the cell has an arc, which starts in the node n
abbrev pub IsStartOf : List (Option ℕ) → List ℕ → ℕ → ℕ → Type 0
IsStartOf arcs node c n = IsSome (arc_at arcs c) × (node_at node (c / 8) ≡ n)

-- an arc of one of the cells starts in the node n
abbrev pub IsStartAmong : List (Option ℕ) → List ℕ → List ℕ → ℕ → Type 0
IsStartAmong arcs node cells n = (c : ℕ) × IsTrue (is_among c cells) × IsStartOf arcs node c n

-- the cells are there, and so are their slots
abbrev pub AreCells : List (Option ℕ) → List ℕ → List ℕ → Type 0
AreCells arcs node cells = (c : ℕ) → IsTrue (is_among c cells) → (c < length arcs) × (c / 8 < length node)

-- each node is below the end
abbrev pub AreBelow : List ℕ → ℕ → Type 0
AreBelow node end = (i : ℕ) → i < length node → node_at node i < end

-- the slot is held
abbrev pub held_at : List Bool → ℕ → Bool
held_at held i = slice_index_or held i false

-- the name that the table has for the node m, which is m itself where it has none
abbrev pub name_at : List ℕ → ℕ → ℕ
name_at name m = slice_index_or name m m

-- the cell has an arc, which starts in another node than m
abbrev pub IsFromOutside : List (Option ℕ) → List ℕ → ℕ → ℕ → Type 0
IsFromOutside arcs node c m = IsSome (arc_at arcs c) × (node_at node (c / 8) ≡ m → ⊥)

-- each arc ends at a slot whose node is below the end
abbrev pub AreEnds : List (Option ℕ) → List ℕ → ℕ → Type 0
AreEnds arcs node end = (c j : ℕ) → arc_at arcs c ≡ Some j → (j < length node) × (node_at node j < end)
