-- The cells of a leaf with a pair put among them, as code has them.
use Rattle.std.specs.Prelude.{◌≡◌, ⊤, ℕ, ◌-◌, Bool, ◌&&◌, Option, None, Some, List, length, nat_lt, if◌then◌else◌}
use Rattle.std.specs.FinMap.Entries.{put}
use Rattle.std.specs.Ordering.{is_eq}
use Rattle.key_entries.specs.Entries.{byte_order}
use Rattle.page_ops.specs.Page.{Cell}
use Rattle.page_ops.specs.OnCells.{key_at}
use Rattle.page_ops.specs.Search.{place_for}
use Rattle.page_map.specs.declared.pair.Pair.{Pair}

abbrev pub row_of : List Cell → Option Pair → List Cell
row_of cells None = cells
row_of cells (Some pair) = put byte_order pair.key.now pair.value.now cells

-- a cell has the key at its place
abbrev pub stands_in : List ℕ → List Cell → Bool
stands_in key cells = nat_lt (place_for key cells) (length cells) && is_eq (byte_order key (key_at cells (place_for key cells)))

-- the place of another cell before the pair was put in
abbrev pub old_at : Bool → ℕ → ℕ → ℕ
old_at there place i = if there then i else (if nat_lt i place then i else i - 1)

-- the pair knows its place, and whether a cell there has its key
abbrev pub KnowsPlace : List Cell → Option Pair → Type 0
KnowsPlace cells None = ⊤
KnowsPlace cells (Some pair) = (pair.place ≡ place_for pair.key.now cells) × (pair.there ≡ stands_in pair.key.now cells)
