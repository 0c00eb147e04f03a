-- Where a page is cut in two, by which key the new page is named, and which page on the way to a leaf has to be cut first.
use Rattle.std.specs.Prelude.{ℕ, zero, suc, ◌+◌, ◌*◌, ◌-◌, ◌==◌, Bool, ◌&&◌, Option, None, Some, List, [], ◌∷◌, is_none, length, map, nat_le, nat_lt, if◌then◌else◌, option_map}
use Rattle.std.specs.List.{list_all, range_with_len}
use Rattle.std.specs.FinMap.Entries.{put}
use Rattle.byteorder.specs.Endian.{little_number}
use Rattle.oper_core.specs.State.{State}
use Rattle.key_entries.specs.Entries.{byte_order}
use Rattle.page_ops.specs.Page.{Cell, cell_code}
use Rattle.page_ops.specs.Reading.{beside_of, count_in, has_cell, key_of}
use Rattle.page_ops.specs.OnCells.{beside_at, key_at}
use Rattle.page_ops.specs.Search.{last_under, place_for}
use Rattle.page_map.specs.Map.{bytes_at, is_below}
use Rattle.page_map.specs.Walk.{child_for, is_on}

-- the cells of a page, as they read
abbrev pub cells_read : List ℕ → List Cell
cells_read bytes = map (λ i. (key_of bytes i, beside_of bytes i)) (range_with_len 0 (count_in bytes))

-- the cells are all there, and the page is one of this level
abbrev pub all_there : List ℕ → Bool
all_there bytes = list_all (has_cell bytes) (range_with_len 0 (count_in bytes))

abbrev pub reads_on : ℕ → List ℕ → Bool
reads_on level bytes = is_on level bytes && all_there bytes

-- those from the front whose keys are below the end of a span: the others are past it
abbrev pub front_of : Option (List ℕ) → List Cell → List Cell
front_of to [] = []
front_of to (c ∷ cells) = if is_below c.0 to then c ∷ front_of to cells else []

-- the shortest key that is above one and not above another, which is above it
abbrev pub separator : List ℕ → List ℕ → List ℕ
separator low [] = []
separator [] (b ∷ high) = b ∷ []
separator (a ∷ low) (b ∷ high) = if a == b then a ∷ separator low high else b ∷ []

-- how many bytes a cell has, with those of its place
abbrev pub cell_size : Cell → ℕ
cell_size c = length (cell_code c) + 2

abbrev pub size_of : List Cell → ℕ
size_of [] = 0
size_of (c ∷ cells) = cell_size c + size_of cells

-- so many cells stand more before the middle of all than behind it; this many bytes stand in front of the first
abbrev pub middle_from : ℕ → ℕ → List Cell → ℕ
middle_from all front [] = 0
middle_from all front (c ∷ cells) = if nat_le all (2 * front + cell_size c) then 0 else suc (middle_from all (front + cell_size c) cells)

-- where cells are cut in two of about one size
abbrev pub middle : List Cell → ℕ
middle cells = middle_from (size_of cells) 0 cells

-- A page that is to be cut: the cells from a place up to the span's end go to a new page, which is named by a key. Where cells
-- are past the span they go first.
pub record Split : Type 0 where
  pub object : ℕ
  pub level : ℕ
  pub place : ℕ
  pub count : ℕ
  pub has_past : Bool
  pub key : List ℕ

-- an inner page is cut in the middle, and its key there names the new page
abbrev pub inner_split : ℕ → ℕ → List Cell → List Cell → Split
inner_split x level cells front = record {
  object = x;
  level = level;
  place = middle front;
  count = length front;
  has_past = nat_lt (length front) (length cells);
  key = key_at front (middle front);
}

-- Where a leaf is cut that has these cells, the new pair among them at a place: in the middle, but with one cell before a pair
-- behind which no other stands in the map, so that keys that rise leave full leaves behind.
abbrev pub cut_at : Option (List ℕ) → ℕ → List Cell → ℕ
cut_at to i cells = if is_none to && (suc i == length cells) then i - 1 else middle cells

-- the shortest key that parts cells at a place
abbrev pub key_before : List Cell → ℕ → List ℕ
key_before cells i = separator (key_at cells (i - 1)) (key_at cells i)

-- the key that parts the cells of a leaf with the pair, whose span has this end
abbrev pub leaf_key : Option (List ℕ) → List ℕ → List ℕ → List Cell → List ℕ
leaf_key to key value front = key_before (put byte_order key value front) (cut_at to (place_for key front) (put byte_order key value front))

-- a leaf is cut as it would be with the pair
abbrev pub leaf_split : ℕ → Option (List ℕ) → List ℕ → List ℕ → List Cell → List Cell → Split
leaf_split x to key value cells front = record {
  object = x;
  level = 0;
  place = place_for (leaf_key to key value front) front;
  count = length front;
  has_past = nat_lt (length front) (length cells);
  key = leaf_key to key value front;
}

-- The leaf has room for the pair; or a page asks the one above it to name a new page; or the page above, with its cell, has room
-- for the name.
pub data Due : Type 0 where
  fits : Due
  asks : Split → Due
  granted : Split → ℕ → ℕ → Due

abbrev pub due_in_leaf : ℕ → ℕ → List ℕ → List ℕ → Option (List ℕ) → List Cell → Due
due_in_leaf room x key value to cells =
    if nat_le (4 + size_of (put byte_order key value cells)) room then fits else asks (leaf_split x to key value cells (front_of to cells))

-- where the span of a child ends: at the next key, or where that of its page does
abbrev pub end_of : List Cell → ℕ → Option (List ℕ) → Option (List ℕ)
end_of front i to = if nat_lt (suc i) (length front) then Some (key_at front (suc i)) else to

abbrev pub child_at : List Cell → ℕ → ℕ
child_at cells i = little_number 4 (beside_at cells i)

-- a page of so many bytes has room for one more child with this key
abbrev pub has_room : ℕ → ℕ → List ℕ → Bool
has_room room size key = nat_le (size + (length key + 8)) room

-- what a child asks for is granted where there is room; else the page asks for itself
abbrev pub ask_above : ℕ → ℕ → ℕ → ℕ → Split → Due → Due
ask_above room size x i own fits = fits
ask_above room size x i own (asks child) = if has_room room size child.key then granted child x i else asks own
ask_above room size x i own (granted split q j) = granted split q j

-- the first bad object on a way that goes on from a child
abbrev pub bad_behind : (ℕ → Option ℕ) → ℕ → Option ℕ → Option ℕ
bad_behind bad x None = Some x
bad_behind bad x (Some child) = bad child

module _ (lo hi : ℕ) (s : State) (key : List ℕ) where
  -- The search for the page that is cut reads all cells of the pages on its way. This is the first object on it that is no page of
  -- its level, lacks a cell, or names no child in the range.
  abbrev pub bad_from : ℕ → ℕ → Option ℕ
  bad_from zero x = if reads_on 0 (bytes_at lo s x) then None else Some x
  bad_from (suc level) x =
      if reads_on (suc level) (bytes_at lo s x)
      then bad_behind (bad_from level) x (child_for lo hi (bytes_at lo s x) (last_under key (cells_read (bytes_at lo s x)))) else Some x

module _ (room lo : ℕ) (s : State) (key value : List ℕ) where
  -- what is due below the cell i of a page
  abbrev pub due_under : (ℕ → Option (List ℕ) → Option Due) → ℕ → ℕ → Option (List ℕ) → List Cell → Option ℕ → Option Due
  due_under below level x to cells None = None
  due_under below level x to cells (Some i) =
      option_map (ask_above room (length (bytes_at lo s x)) x i (inner_split x level cells (front_of to cells)))
      (below (child_at cells i) (end_of (front_of to cells) i to))

  -- From the leaf of the key upwards: the first page whose name the page above it has room for, or else the page that is
  -- begun with. The end of its span is carried along.
  abbrev pub due_from : ℕ → ℕ → Option (List ℕ) → Option Due
  due_from zero x to = Some (due_in_leaf room x key value to (cells_read (bytes_at lo s x)))
  due_from (suc level) x to =
      due_under (due_from level) (suc level) x to (cells_read (bytes_at lo s x)) (last_under key (cells_read (bytes_at lo s x)))
