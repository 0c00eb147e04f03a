-- What the operations make of pages that are read as lists of cells.
use Rattle.std.specs.Prelude.{ℕ, ◌+◌, ◌-◌, ◌==◌, Bool, ◌&&◌, ◌||◌, not, Option, None, Some, Result, Ok, Err, List, [], ◌∷◌, ◌++◌, length, take, drop, slice_index_or, nat_le, nat_lt, if◌then◌else◌}
use Rattle.std.specs.Ordering.{is_lt}
use Rattle.key_entries.specs.Entries.{byte_order}
use Rattle.oper_core.specs.declared.refusal.Refusal.{Refusal}
use Rattle.oper_core.specs.declared.refusal.Refusal.TheVariants.{TooLarge}
use Rattle.page_ops.specs.Page.{Cell, Page, AreShort, page_code}
use Rattle.page_ops.specs.Reading.{between}
use Rattle.page_ops.specs.Seen.{child_cell}
use Rattle.page_ops.specs.Effects.{where_kind, where_places}
use Rattle.page_ops.specs.declared.page_op.PageOp.{PageOp}
use Rattle.page_ops.specs.declared.page_op.PageOp.TheVariants.{Put, Set, Delete, Part, Absorb, Join, Keep, Turn, TurnTwo, Root, Free}

-- a page that is made, or the empty value, or why nothing is made
abbrev pub Outcome : Type 0
Outcome = Result (Option Page) Refusal

abbrev pub with_cells : ℕ → List Cell → Outcome
with_cells level cells = Ok (Some (record { level = level; cells = cells }))

-- new cells stand where r cells from i on stood
abbrev pub replaced : ℕ → ℕ → List Cell → List Cell → List Cell
replaced i r new cells = take i cells ++ (new ++ drop (i + r) cells)

abbrev pub key_at : List Cell → ℕ → List ℕ
key_at cells i = (slice_index_or cells i ([], [])).0

abbrev pub beside_at : List Cell → ℕ → List ℕ
beside_at cells i = (slice_index_or cells i ([], [])).1

-- there is a cell i, and its key is below another, or above it
abbrev pub has_below : List Cell → ℕ → List ℕ → Bool
has_below cells i key = nat_lt i (length cells) && is_lt (byte_order (key_at cells i) key)

abbrev pub has_above : List Cell → ℕ → List ℕ → Bool
has_above cells i key = nat_lt i (length cells) && is_lt (byte_order key (key_at cells i))

-- a key may stand before the cell i: below it, or at the end
abbrev pub may_precede : List Cell → ℕ → List ℕ → Bool
may_precede cells i key = (length cells == i) || has_above cells i key

-- and above the one before it, where there is one
abbrev pub may_stand : List Cell → ℕ → List ℕ → Bool
may_stand cells i key = ((i == 0) || has_below cells (i - 1) key) && may_precede cells i key

-- there are r cells from i on, at least one
abbrev pub has_run : List Cell → ℕ → ℕ → Bool
has_run cells i r = nat_lt 0 r && nat_le (i + r) (length cells)

-- a leaf that is changed, an inner page, one of either kind, and two of one level
abbrev pub on_leaf : Page → Bool → List Cell → Outcome
on_leaf page places cells = where_kind (page.level == 0) (where_places places (with_cells 0 cells))

abbrev pub on_inner : Page → Bool → List Cell → Outcome
on_inner page places cells = where_kind (not (page.level == 0)) (where_places places (with_cells page.level cells))

abbrev pub on_either : Page → Bool → List Cell → Outcome
on_either page places cells = where_places places (with_cells page.level cells)

abbrev pub on_alike : Page → Page → Bool → List Cell → Outcome
on_alike page other places cells = where_kind (page.level == other.level) (where_places places (with_cells page.level cells))

-- changes of a leaf
abbrev pub put_on : ℕ → Cell → Page → Outcome
put_on i c page = on_leaf page (may_stand page.cells i c.0) (replaced i 0 (c ∷ []) page.cells)

abbrev pub set_on : ℕ → List ℕ → Page → Outcome
set_on i value page = on_leaf page (nat_lt i (length page.cells)) (replaced i 1 ((key_at page.cells i, value) ∷ []) page.cells)

abbrev pub delete_on : ℕ → Page → Outcome
delete_on i page = on_leaf page (nat_lt i (length page.cells)) (replaced i 1 [] page.cells)

-- pages that are cut and joined
abbrev pub part_on : ℕ → ℕ → Page → Outcome
part_on i j page = on_either page (nat_le i j && nat_le j (length page.cells)) (between i j page.cells)

abbrev pub absorb_on : ℕ → Page → Page → Outcome
absorb_on t page other = on_alike page other (nat_le t (length other.cells)) (page.cells ++ take t other.cells)

abbrev pub join_on : ℕ → ℕ → Page → Page → Outcome
join_on i j page other = on_alike page other (nat_le i j && nat_le j (length page.cells + length other.cells)) (between i j (page.cells ++ other.cells))

-- changes of an inner page
abbrev pub turn_on : ℕ → ℕ → ℕ → Page → Outcome
turn_on i r child page = on_inner page (has_run page.cells i r) (replaced i r (child_cell (key_at page.cells i) child ∷ []) page.cells)

abbrev pub turn_two_on : ℕ → ℕ → ℕ → Cell → Page → Outcome
turn_two_on i r child second page =
    on_inner page (has_run page.cells i r && (has_below page.cells i second.0 && may_precede page.cells (i + r) second.0))
    (replaced i r (child_cell (key_at page.cells i) child ∷ second ∷ []) page.cells)

abbrev pub no_page : Page
no_page = record { level = 0; cells = [] }

abbrev pub first_page : List Page → Page
first_page pages = slice_index_or pages 0 no_page

abbrev pub other_page : List Page → Page
other_page pages = slice_index_or pages 1 no_page

-- what an operation makes of the pages that it reads
abbrev pub on_cells : PageOp → List Page → Outcome
on_cells (Put x i key value) pages = put_on i (key, value) (first_page pages)
on_cells (Set x i value) pages = set_on i value (first_page pages)
on_cells (Delete x i) pages = delete_on i (first_page pages)
on_cells (Part new x i j) pages = part_on i j (first_page pages)
on_cells (Absorb x y t) pages = absorb_on t (first_page pages) (other_page pages)
on_cells (Join new x y i j) pages = join_on i j (first_page pages) (other_page pages)
on_cells (Keep x n) pages = part_on 0 n (first_page pages)
on_cells (Turn x i r child) pages = turn_on i r child (first_page pages)
on_cells (TurnTwo x i r child key second) pages = turn_two_on i r child (child_cell key second) (first_page pages)
on_cells (Root x level left key right) pages = with_cells level (child_cell [] left ∷ child_cell key right ∷ [])
on_cells (Free x) pages = Ok None

-- the bytes of what is made
abbrev pub code_of : Outcome → Result (List ℕ) Refusal
code_of (Ok (Some page)) = Ok (page_code page)
code_of (Ok None) = Ok []
code_of (Err r) = Err r

-- no value is longer than CAP, nor than places can say
abbrev pub where_fits : ℕ → Result (List ℕ) Refusal → Result (List ℕ) Refusal
where_fits cap (Ok bytes) = if nat_le (length bytes) cap && nat_lt (length bytes) 65536 then Ok bytes else Err TooLarge
where_fits cap (Err r) = Err r

-- the bytes that an operation makes in a store of this CAP
abbrev pub made_on : ℕ → PageOp → List Page → Result (List ℕ) Refusal
made_on cap op pages = where_fits cap (code_of (on_cells op pages))

-- the value that is written: where nothing is made it is empty
abbrev pub written_on : Result (List ℕ) Refusal → List ℕ
written_on (Ok bytes) = bytes
written_on (Err r) = []

-- pages whose places fit two bytes
abbrev pub IsShortPage : Page → Type 0
IsShortPage page = AreShort page.cells
