-- The page that an operation makes: cells of old pages as they stand, and new cells.
use Rattle.std.specs.Prelude.{ℕ, ◌+◌, ◌*◌, ◌-◌, Option, None, Some, List, [], ◌∷◌, ◌++◌, length, flat_map}
use Rattle.byteorder.specs.Endian.{little_bytes, little_number}
use Rattle.page_ops.specs.Page.{Cell, cells_code, places_from}
use Rattle.page_ops.specs.Reading.{between, place_of, places_in}

-- some cells of a page: their bytes, where the first of them stands, and the place of each
pub record Cells : Type 0 where
  pub bytes : List ℕ
  pub from : ℕ
  pub places : List ℕ

-- the numbers of two bytes each that the bytes are
abbrev pub numbers_in : List ℕ → List ℕ
numbers_in (a ∷ b ∷ bytes) = little_number 2 (a ∷ b ∷ bytes) ∷ numbers_in bytes
numbers_in others = []

-- cells i up to j
abbrev pub part_of : List ℕ → ℕ → ℕ → Cells
part_of bytes i j = record {
  bytes = between (place_of bytes i) (place_of bytes j) bytes;
  from = place_of bytes i;
  places = numbers_in (between (2 * i) (2 * j) (places_in bytes));
}

abbrev pub no_cells : Cells
no_cells = record { bytes = []; from = 0; places = [] }

-- a page: its level, and its cells, of which the new ones stand between those of old pages
pub record Layout : Type 0 where
  pub level : ℕ
  pub front : Cells
  pub new : List Cell
  pub back : Cells

abbrev pub count_of : Layout → ℕ
count_of page = length page.front.places + (length page.new + length page.back.places)

abbrev pub cells_of : Layout → List ℕ
cells_of page = page.front.bytes ++ (cells_code page.new ++ page.back.bytes)

-- the places of cells of which the first has moved to `at`; each has two bytes, so it counts modulo 65,536
abbrev pub moved : ℕ → ℕ → List ℕ → List ℕ
moved from at places = flat_map (λ place. little_bytes 2 (at + (place - from))) places

abbrev pub new_at : Layout → ℕ
new_at page = 4 + length page.front.bytes

abbrev pub back_at : Layout → ℕ
back_at page = new_at page + length (cells_code page.new)

abbrev pub places_of : Layout → List ℕ
places_of page =
    moved page.front.from 4 page.front.places
    ++ (flat_map (little_bytes 2) (places_from (new_at page) page.new) ++ moved page.back.from (back_at page) page.back.places)

-- the bytes of the page
abbrev pub built : Layout → List ℕ
built page = 5 ∷ page.level ∷ (little_bytes 2 (count_of page) ++ (cells_of page ++ places_of page))

-- how many they are
abbrev pub size : Layout → ℕ
size page = back_at page + length page.back.bytes + 2 * count_of page

-- the value of an object: a page, or nothing
abbrev pub value_of : Option Layout → List ℕ
value_of None = []
value_of (Some page) = built page
