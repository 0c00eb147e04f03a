-- The pages that the operations make, and when they are refused.
use Rattle.std.specs.Prelude.{ℕ, ◌+◌, ◌-◌, ◌==◌, Bool, ◌&&◌, Option, None, Some, Result, Ok, Err, List, [], ◌∷◌, slice_index_or, nat_le, nat_lt, if◌then◌else◌}
use Rattle.oper_core.specs.declared.refusal.Refusal.{Refusal}
use Rattle.oper_core.specs.declared.refusal.Refusal.TheVariants.{BadPlace, NotNode, TooLarge}
use Rattle.page_ops.specs.Page.{Cell}
use Rattle.page_ops.specs.Reading.{level_in, count_in, opens, is_leaf, is_inner, has_cell, key_of, stands_below, ends_before, goes_in}
use Rattle.page_ops.specs.Layout.{Cells, Layout, part_of, no_cells, size, value_of}
use Rattle.page_ops.specs.Seen.{child_cell}
use Rattle.page_ops.specs.declared.page_op.PageOp.{PageOp}
use Rattle.page_ops.specs.declared.page_op.PageOp.TheVariants.{Put, Set, Delete, Part, Absorb, Join, Keep, Turn, TurnTwo, Root, Free}

-- a page, or the empty value, or why nothing is made
abbrev pub Made : Type 0
Made = Result (Option Layout) Refusal

abbrev pub page : ℕ → Cells → List Cell → Cells → Made
page level front new back = Ok (Some (record { level = level; front = front; new = new; back = back }))

-- what is made where the bytes are a page of the kind that is asked for
abbrev pub where_kind : {A : Type 0} → Bool → Result A Refusal → Result A Refusal
where_kind kind made = if kind then made else Err NotNode

-- and where the cells are at the places that are named
abbrev pub where_places : {A : Type 0} → Bool → Result A Refusal → Result A Refusal
where_places places made = if places then made else Err BadPlace

-- the empty value counts as a leaf without cells where a cell is put
abbrev pub to_fill : List ℕ → List ℕ
to_fill [] = 5 ∷ 0 ∷ 0 ∷ 0 ∷ []
to_fill (b ∷ bytes) = b ∷ bytes

-- a cell comes in before cell i
abbrev pub put_in : ℕ → List ℕ → List ℕ → List ℕ → Made
put_in i key value bytes =
    where_places (goes_in bytes i key) (page 0 (part_of bytes 0 i) ((key, value) ∷ []) (part_of bytes i (count_in bytes)))

abbrev pub put_made : ℕ → List ℕ → List ℕ → List ℕ → Made
put_made i key value bytes = where_kind (is_leaf bytes) (put_in i key value bytes)

-- cell i gets another value
abbrev pub set_in : ℕ → List ℕ → List ℕ → Made
set_in i value bytes =
    where_places (has_cell bytes i) (page 0 (part_of bytes 0 i) ((key_of bytes i, value) ∷ []) (part_of bytes (i + 1) (count_in bytes)))

abbrev pub set_made : ℕ → List ℕ → List ℕ → Made
set_made i value bytes = where_kind (is_leaf bytes) (set_in i value bytes)

-- cell i goes
abbrev pub delete_in : ℕ → List ℕ → Made
delete_in i bytes = where_places (has_cell bytes i) (page 0 (part_of bytes 0 i) [] (part_of bytes (i + 1) (count_in bytes)))

abbrev pub delete_made : ℕ → List ℕ → Made
delete_made i bytes = where_kind (is_leaf bytes) (delete_in i bytes)

-- cells i up to j, as a page of their own
abbrev pub part_made : ℕ → ℕ → List ℕ → Made
part_made i j bytes =
    where_kind (opens bytes) (where_places (nat_le i j && nat_le j (count_in bytes)) (page (level_in bytes) (part_of bytes i j) [] no_cells))

-- both are pages of one level
abbrev pub are_alike : List ℕ → List ℕ → Bool
are_alike bytes other = opens bytes && (opens other && (level_in bytes == level_in other))

-- the first t cells of another page come behind those of the page
abbrev pub absorb_in : ℕ → List ℕ → List ℕ → Made
absorb_in t bytes other =
    where_places (nat_le t (count_in other)) (page (level_in bytes) (part_of bytes 0 (count_in bytes)) [] (part_of other 0 t))

abbrev pub absorb_made : ℕ → List ℕ → List ℕ → Made
absorb_made t bytes other = where_kind (are_alike bytes other) (absorb_in t bytes other)

abbrev pub lesser : ℕ → ℕ → ℕ
lesser i n = if nat_le i n then i else n

-- cells i up to j of two pages together, as a page of their own
abbrev pub join_in : ℕ → ℕ → List ℕ → List ℕ → Made
join_in i j bytes other =
    where_places (nat_le i j && nat_le j (count_in bytes + count_in other))
    (page (level_in bytes) (part_of bytes (lesser i (count_in bytes)) (lesser j (count_in bytes))) [] (part_of other (i - count_in bytes) (j - count_in bytes)))

abbrev pub join_made : ℕ → ℕ → List ℕ → List ℕ → Made
join_made i j bytes other = where_kind (are_alike bytes other) (join_in i j bytes other)

-- there are r cells from i on, at least one
abbrev pub has_cells : List ℕ → ℕ → ℕ → Bool
has_cells bytes i r = nat_lt 0 r && (nat_le (i + r) (count_in bytes) && has_cell bytes i)

-- r cells from i on become one, which keeps the first key and has this child
abbrev pub turn_in : ℕ → ℕ → ℕ → List ℕ → Made
turn_in i r child bytes =
    where_places (has_cells bytes i r)
    (page (level_in bytes) (part_of bytes 0 i) (child_cell (key_of bytes i) child ∷ []) (part_of bytes (i + r) (count_in bytes)))

abbrev pub turn_made : ℕ → ℕ → ℕ → List ℕ → Made
turn_made i r child bytes = where_kind (is_inner bytes) (turn_in i r child bytes)

-- they become two: that one, and one with this key and this child
abbrev pub turn_two_in : ℕ → ℕ → ℕ → List ℕ → ℕ → List ℕ → Made
turn_two_in i r child key second bytes =
    where_places (has_cells bytes i r && (stands_below bytes i key && ends_before bytes (i + r) key))
    (page (level_in bytes) (part_of bytes 0 i) (child_cell (key_of bytes i) child ∷ child_cell key second ∷ []) (part_of bytes (i + r) (count_in bytes)))

abbrev pub turn_two_made : ℕ → ℕ → ℕ → List ℕ → ℕ → List ℕ → Made
turn_two_made i r child key second bytes = where_kind (is_inner bytes) (turn_two_in i r child key second bytes)

-- an inner page over two children, of which the first has no key
abbrev pub root_made : ℕ → ℕ → List ℕ → ℕ → Made
root_made level left key right = page level no_cells (child_cell [] left ∷ child_cell key right ∷ []) no_cells

abbrev pub first : List (List ℕ) → List ℕ
first values = slice_index_or values 0 []

abbrev pub other : List (List ℕ) → List ℕ
other values = slice_index_or values 1 []

-- what an operation makes from the values that it reads
abbrev pub made_by : PageOp → List (List ℕ) → Made
made_by (Put x i key value) values = put_made i key value (to_fill (first values))
made_by (Set x i value) values = set_made i value (first values)
made_by (Delete x i) values = delete_made i (first values)
made_by (Part new x i j) values = part_made i j (first values)
made_by (Absorb x y t) values = absorb_made t (first values) (other values)
made_by (Join new x y i j) values = join_made i j (first values) (other values)
made_by (Keep x n) values = part_made 0 n (first values)
made_by (Turn x i r child) values = turn_made i r child (first values)
made_by (TurnTwo x i r child key second) values = turn_two_made i r child key second (first values)
made_by (Root x level left key right) values = root_made level left key right
made_by (Free x) values = Ok None

-- no page is longer than CAP, nor than places can say
abbrev pub is_short : ℕ → Layout → Bool
is_short cap layout = nat_le (size layout) cap && nat_lt (size layout) 65536

abbrev pub where_short : ℕ → Made → Made
where_short cap (Ok (Some layout)) = if is_short cap layout then Ok (Some layout) else Err TooLarge
where_short cap (Ok None) = Ok None
where_short cap (Err r) = Err r

-- the bytes of what is made
abbrev pub bytes_of : Made → Result (List ℕ) Refusal
bytes_of (Ok made) = Ok (value_of made)
bytes_of (Err r) = Err r

-- those that are made in a store of this CAP
abbrev pub bytes_made : ℕ → Made → Result (List ℕ) Refusal
bytes_made cap made = bytes_of (where_short cap made)
