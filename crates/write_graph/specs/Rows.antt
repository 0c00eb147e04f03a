-- By object: who wrote it last, and which cells wait for its next write.
use Rattle.std.specs.Prelude.{◌≡◌, ℕ, ◌+◌, ◌/◌, ◌≤◌, Bool, slice_index_or, if◌then◌else◌, List, [], ◌∷◌, Option, None, Some}
use Rattle.number_lists.specs.Lists.{list_at}
use Rattle.graph_nodes.specs.Arcs.{held_at}
use Rattle.write_graph.specs.Places.{place_in}

-- what contracts see: the objects, in the order of their rows; by row the cell of the last write and the waiting cells; how many cells there are;
-- and for how many more objects and cells there is memory
pub record Rows : Type 0 where
  pub objects : List ℕ
  pub last : List (Option ℕ)
  pub waiting : List (List ℕ)
  pub cells : ℕ
  pub row_room : ℕ
  pub cell_room : ℕ

-- the cell of the last write of x
abbrev pub last_cell_of : Rows → ℕ → Option ℕ
last_cell_of rows x = slice_index_or rows.last (place_in x rows.objects) None

-- the slot of a cell
abbrev pub its_slot : Option ℕ → Option ℕ
its_slot None = None
its_slot (Some c) = Some (c / 8)

-- the last writer of x
abbrev pub last_of : Rows → ℕ → Option ℕ
last_of rows x = its_slot (last_cell_of rows x)

-- the cells that wait for the next write of x
abbrev pub waiting_of : Rows → ℕ → List ℕ
waiting_of rows x = list_at rows.waiting (place_in x rows.objects)

-- no cell waits for the write of any object, and there is no last writer
pub record AreEmpty (rows : Rows) : Type 0 where
  pub last : (x : ℕ) → last_cell_of rows x ≡ None
  pub waiting : (x : ℕ) → waiting_of rows x ≡ []
  pub cells : rows.cells ≡ 0

-- the cells of the last writes are the same
abbrev pub AreSameLast : Rows → Rows → Type 0
AreSameLast old new = (x : ℕ) → last_cell_of new x ≡ last_cell_of old x

-- the waiting cells are the same
abbrev pub AreSameWaiting : Rows → Rows → Type 0
AreSameWaiting old new = (x : ℕ) → waiting_of new x ≡ waiting_of old x

-- the cell is that of the last write of x
pub record IsLastSet (old : Rows) (x cell : ℕ) (new : Rows) : Type 0 where
  pub here : last_cell_of new x ≡ Some cell
  pub others : (y : ℕ) → (y ≡ x → ⊥) → last_cell_of new y ≡ last_cell_of old y
  pub waiting : AreSameWaiting old new
  pub cells : new.cells ≡ old.cells
  pub row_room : old.row_room ≤ new.row_room + 1
  pub cell_room : new.cell_room ≡ old.cell_room

-- the cell waits for the write of x
pub record IsWaiting (old : Rows) (x cell : ℕ) (new : Rows) : Type 0 where
  pub here : waiting_of new x ≡ cell ∷ waiting_of old x
  pub others : (y : ℕ) → (y ≡ x → ⊥) → waiting_of new y ≡ waiting_of old y
  pub last : AreSameLast old new
  pub cells : new.cells ≡ old.cells
  pub row_room : old.row_room ≤ new.row_room + 1
  pub cell_room : new.cell_room ≡ old.cell_room

-- the cell, which waited for the write of x, waits no more
pub record IsTaken (old : Rows) (x cell : ℕ) (new : Rows) : Type 0 where
  pub here : waiting_of old x ≡ cell ∷ waiting_of new x
  pub others : (y : ℕ) → (y ≡ x → ⊥) → waiting_of new y ≡ waiting_of old y
  pub last : AreSameLast old new
  pub cells : new.cells ≡ old.cells
  pub row_room : new.row_room ≡ old.row_room
  pub cell_room : new.cell_room ≡ old.cell_room

-- eight cells more, none of which waits
pub record AreCellsAdded (old new : Rows) : Type 0 where
  pub last : AreSameLast old new
  pub waiting : AreSameWaiting old new
  pub cells : new.cells ≡ old.cells + 8
  pub row_room : new.row_room ≡ old.row_room
  pub cell_room : old.cell_room ≤ new.cell_room + 8

-- the slot, if it is held
abbrev pub if_held : List Bool → Option ℕ → Option ℕ
if_held held None = None
if_held held (Some w) = if held_at held w then Some w else None

-- the last writer of x, if it is held
abbrev pub last_held : List Bool → Rows → ℕ → Option ℕ
last_held held rows x = if_held held (last_of rows x)
