-- How an operation reads a page: no more than the places that it needs. Of bytes that are no page it is said what they read as, too,
-- so that each operation is a function of all bytes; that they are a page is a matter of the maps, not of the operations.
use Rattle.std.specs.Prelude.{ℕ, zero, suc, ◌+◌, ◌*◌, ◌-◌, ◌/◌, ◌==◌, Bool, ◌&&◌, ◌||◌, not, Option, None, Some, List, length, take, drop, slice_index, nat_le, nat_lt, if◌then◌else◌, option_map, option_and_then}
use Rattle.std.specs.Ordering.{is_eq, is_lt}
use Rattle.byteorder.specs.Endian.{little_number}
use Rattle.key_entries.specs.Entries.{byte_order}

abbrev pub level_in : List ℕ → ℕ
level_in bytes = slice_index bytes 1

abbrev pub count_in : List ℕ → ℕ
count_in bytes = little_number 2 (drop 2 bytes)

-- where the places begin, which is where the cells end
abbrev pub places_at : List ℕ → ℕ
places_at bytes = length bytes - 2 * count_in bytes

abbrev pub places_in : List ℕ → List ℕ
places_in bytes = drop (places_at bytes) bytes

-- where a cell begins; behind the last one, where the cells end
abbrev pub place_of : List ℕ → ℕ → ℕ
place_of bytes i = if nat_lt i (count_in bytes) then little_number 2 (drop (2 * i) (places_in bytes)) else places_at bytes

-- the bytes have the length of a page, its kind, the places of so many cells, and the first cell stands behind the head
abbrev pub opens : List ℕ → Bool
opens bytes =
    nat_le 4 (length bytes) && (nat_lt (length bytes) 65536 && ((slice_index bytes 0 == 5) && (nat_le (4 + 2 * count_in bytes) (length bytes) && (place_of bytes 0 == 4))))

abbrev pub is_leaf : List ℕ → Bool
is_leaf bytes = opens bytes && (level_in bytes == 0)

abbrev pub is_inner : List ℕ → Bool
is_inner bytes = opens bytes && not (level_in bytes == 0)

-- the bytes, or the cells, from one place up to another
abbrev pub between : {A : Type 0} → ℕ → ℕ → List A → List A
between from to items = take (to - from) (drop from items)

abbrev pub cell_bytes : List ℕ → ℕ → List ℕ
cell_bytes bytes i = between (place_of bytes i) (place_of bytes (suc i)) bytes

-- a cell has two bytes for its key's length, and the key
abbrev pub has_key : List ℕ → Bool
has_key cell = nat_le (2 + little_number 2 cell) (length cell)

abbrev pub key_in : List ℕ → List ℕ
key_in cell = take (little_number 2 cell) (drop 2 cell)

-- what is beside the key
abbrev pub beside_in : List ℕ → List ℕ
beside_in cell = drop (2 + little_number 2 cell) cell

-- the cell is there, and has its key
abbrev pub has_cell : List ℕ → ℕ → Bool
has_cell bytes i =
    nat_lt i (count_in bytes) && (nat_le 4 (place_of bytes i) && (nat_le (place_of bytes (suc i)) (places_at bytes) && has_key (cell_bytes bytes i)))

abbrev pub key_of : List ℕ → ℕ → List ℕ
key_of bytes i = key_in (cell_bytes bytes i)

abbrev pub beside_of : List ℕ → ℕ → List ℕ
beside_of bytes i = beside_in (cell_bytes bytes i)

abbrev pub child_of : List ℕ → ℕ → ℕ
child_of bytes i = little_number 4 (beside_of bytes i)

-- the key of the cell is below another, or above it, or is it, where there is such a cell
abbrev pub stands_below : List ℕ → ℕ → List ℕ → Bool
stands_below bytes i key = has_cell bytes i && is_lt (byte_order (key_of bytes i) key)

abbrev pub stands_above : List ℕ → ℕ → List ℕ → Bool
stands_above bytes i key = has_cell bytes i && is_lt (byte_order key (key_of bytes i))

abbrev pub stands_at : List ℕ → ℕ → List ℕ → Bool
stands_at bytes i key = has_cell bytes i && is_eq (byte_order (key_of bytes i) key)

-- the key is below that of the cell i, or there is none behind
abbrev pub ends_before : List ℕ → ℕ → List ℕ → Bool
ends_before bytes i key = (count_in bytes == i) || stands_above bytes i key

-- a key may stand before the cell i
abbrev pub goes_in : List ℕ → ℕ → List ℕ → Bool
goes_in bytes i key = ((i == 0) || stands_below bytes (i - 1) key) && ends_before bytes i key

-- the least place from lo on and below hi whose key is not below the key, else hi; none where a cell that is asked does not fit
abbrev pub seek_from : ℕ → List ℕ → List ℕ → ℕ → ℕ → Option ℕ
seek_from zero bytes key lo hi = Some lo
seek_from (suc n) bytes key lo hi =
    if nat_lt lo hi then (if has_cell bytes ((lo + hi) / 2) then (if is_lt (byte_order (key_of bytes ((lo + hi) / 2)) key)
    then seek_from n bytes key (suc ((lo + hi) / 2)) hi else seek_from n bytes key lo ((lo + hi) / 2)) else None) else Some lo

abbrev pub seek : List ℕ → List ℕ → Option ℕ
seek bytes key = seek_from (count_in bytes) bytes key 0 (count_in bytes)

-- what a leaf has at a key, if it is there
abbrev pub at_place : List ℕ → List ℕ → ℕ → Option (List ℕ)
at_place bytes key i = if stands_at bytes i key then Some (beside_of bytes i) else None

abbrev pub found_in : List ℕ → List ℕ → Option (Option (List ℕ))
found_in bytes key = option_map (at_place bytes key) (seek bytes key)

-- the last cell whose key is not above a key
abbrev pub under_place : List ℕ → List ℕ → ℕ → Option ℕ
under_place bytes key i = if stands_at bytes i key then Some i else (if i == 0 then None else Some (i - 1))

abbrev pub under : List ℕ → List ℕ → Option ℕ
under bytes key = option_and_then (under_place bytes key) (seek bytes key)
