-- Arcs that are kept in pages of 64 cells, each of which is there where a cell in it has or had an arc.
use Rattle.std.specs.Prelude.{◌≡◌, ℕ, zero, suc, ◌+◌, ◌*◌, ◌/◌, ◌%◌, ◌≤◌, ◌++◌, List, [], ◌∷◌, length, Option, None, Some, slice_index_or}

-- what contracts see: where the arc of each cell leads, and for how many more slots there is memory
pub record ArcList : Type 0 where
  pub cells : List (Option ℕ)
  pub room : ℕ

-- the page of the cell: 64 slots have eight pages, one for each place of a cell in its slot
abbrev pub page_of : ℕ → ℕ
page_of c = 8 * (c / 512) + c % 8

-- where the cell stands in its page
abbrev pub place_of : ℕ → ℕ
place_of c = c / 8 % 64

-- what the page has at the place, nothing where it is not there
abbrev pub in_page : List (Option ℕ) → ℕ → Option ℕ → Option ℕ
in_page stored place None = None
in_page stored place (Some p) = slice_index_or stored (64 * p + place) None

-- where the arc of the cell leads
abbrev pub stored_arc : List (Option ℕ) → List (Option ℕ) → ℕ → Option ℕ
stored_arc pages stored c = in_page stored (place_of c) (slice_index_or pages (page_of c) None)

-- where the arcs of the first so many cells lead
abbrev pub arcs_of : List (Option ℕ) → List (Option ℕ) → ℕ → List (Option ℕ)
arcs_of pages stored zero = []
arcs_of pages stored (suc n) = arcs_of pages stored n ++ stored_arc pages stored n ∷ []

-- how many pages are there
abbrev pub count_pages : List (Option ℕ) → ℕ
count_pages [] = zero
count_pages (None ∷ pages) = count_pages pages
count_pages (Some p ∷ pages) = suc (count_pages pages)

-- how many pages so many slots have, those that are not there among them
abbrev pub pages_for : ℕ → ℕ
pages_for slots = 8 * ((slots + 63) / 64)

-- each page that is there has 64 cells of its own, and no other cell than those of the slots has an arc
pub record ArePages (slots : ℕ) (pages stored : List (Option ℕ)) : Type 0 where
  pub size : length pages ≡ pages_for slots
  pub count : length stored ≡ 64 * count_pages pages
  pub below : (i p : ℕ) → slice_index_or pages i None ≡ Some p → 64 * p + 64 ≤ length stored
  pub apart : (i j p : ℕ) → slice_index_or pages i None ≡ Some p → slice_index_or pages j None ≡ Some p → i ≡ j
  pub past : (c : ℕ) → 8 * slots ≤ c → stored_arc pages stored c ≡ None

-- the page i is there, as that of number p, and no cell's arc has changed
pub record IsPageFound (slots i p : ℕ) (more longer pages stored : List (Option ℕ)) : Type 0 where
  pub here : slice_index_or more i None ≡ Some p
  pub are : ArePages slots more longer
  pub same : (c : ℕ) → stored_arc more longer c ≡ stored_arc pages stored c
