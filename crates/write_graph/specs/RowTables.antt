-- What the tables of the rows keep: an object's row is its place among the objects.
use Rattle.std.specs.Prelude.{◌≡◌, ℕ, ◌-◌, ◌+◌, ◌<◌, ◌^◌, ◌≤◌, min, List, length, slice_index, Option}
use Rattle.number_lists.specs.Lists.{Lists}
use Rattle.write_graph.specs.Rows.{Rows, AreSameLast, AreSameWaiting}
use Rattle.write_graph.specs.Places.{place_in}

-- what contracts see of the tables, and of the room in the tables of objects and of last writers
abbrev pub rows_of : List ℕ → List (Option ℕ) → Lists → ℕ → Rows
rows_of objects last waiting room = record {
  objects = objects;
  last = last;
  waiting = waiting.lists;
  cells = waiting.items;
  row_room = min (2 ^ 32 - length objects) (min room waiting.list_room);
  cell_room = waiting.item_room;
}

-- the tables have one row for each object, which stands once
pub record AreTables (objects : List ℕ) (last : List (Option ℕ)) (waiting : Lists) : Type 0 where
  pub last_rows : length last ≡ length objects
  pub waiting_rows : length waiting.lists ≡ length objects
  pub few : length objects ≤ 2 ^ 32
  pub once : (i : ℕ) → i < length objects → place_in (slice_index objects i) objects ≡ i

-- the row is that of x, and all rows report what they reported
pub record IsRow (old : Rows) (x row : ℕ) (new : Rows) : Type 0 where
  pub place : row ≡ place_in x new.objects
  pub below : row < length new.objects
  pub last : AreSameLast old new
  pub waiting : AreSameWaiting old new
  pub cells : new.cells ≡ old.cells
  pub row_room : old.row_room ≤ new.row_room + 1
  pub cell_room : new.cell_room ≡ old.cell_room
