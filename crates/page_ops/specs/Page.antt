-- A page of a map, and its bytes.
use Rattle.std.specs.Prelude.{◌≡◌, ℕ, ◌+◌, ◌*◌, ◌<◌, ◌^◌, T, All, List, [], ◌∷◌, ◌++◌, length, flat_map}
use Rattle.byteorder.specs.Endian.{little_bytes}
use Rattle.std.specs.FinMap.Entries.{is_sorted}
use Rattle.key_entries.specs.Entries.{byte_order}

-- a key, and the bytes beside it: a value in a leaf, the four bytes of a child in an inner page
abbrev pub Cell : Type 0
Cell = List ℕ × List ℕ

-- the cells rise by their keys; a leaf has level 0, and an inner page the level of its children and 1
pub record Page : Type 0 where
  pub level : ℕ
  pub cells : List Cell

-- the key's length in two bytes, of which the highest bit is 0 (1 is kept for long values), the key, and what is beside it
abbrev pub cell_code : Cell → List ℕ
cell_code c = little_bytes 2 (length c.0) ++ (c.0 ++ c.1)

abbrev pub cells_code : List Cell → List ℕ
cells_code = flat_map cell_code

-- where the cells stand, from a place on
abbrev pub places_from : ℕ → List Cell → List ℕ
places_from at [] = []
places_from at (c ∷ cells) = at ∷ places_from (at + length (cell_code c)) cells

-- the kind 5, the level, the count, the cells without gaps, and at the end the place of each cell, two bytes
abbrev pub page_code : Page → List ℕ
page_code page =
    5 ∷ page.level ∷ (little_bytes 2 (length page.cells) ++ (cells_code page.cells ++ flat_map (little_bytes 2) (places_from 4 page.cells)))

-- what is beside a key fits the level
abbrev pub fits_level : ℕ → Cell → Type 0
fits_level level c = (length c.0 < 2 ^ 15) × (0 < level → length c.1 ≡ 4)

pub record IsPage (page : Page) : Type 0 where
  pub level : page.level < 2 ^ 8
  pub fit : All (fits_level page.level) page.cells
  pub rise : T (is_sorted byte_order page.cells)
  pub short : length (page_code page) < 2 ^ 16

-- the bytes are this page
pub record IsPageOf (bytes : List ℕ) (page : Page) : Type 0 where
  pub is : IsPage page
  pub code : bytes ≡ page_code page

-- the bytes of a page of this level with these cells
abbrev pub page_of : ℕ → List Cell → List ℕ
page_of level cells = page_code (record { level = level; cells = cells })

-- cells whose places fit two bytes in a page
abbrev pub AreShort : List Cell → Type 0
AreShort cells = 4 + length (cells_code cells) + 2 * length cells < 65536
