-- Maps in a range of objects: pages under pages, and the pairs in the leaves.
use Rattle.std.specs.Prelude.{◌≡◌, ⊤, ℕ, zero, suc, ◌+◌, ◌≤◌, Bool, true, not, ◌&&◌, ◌==◌, IsTrue, T, Option, None, Some, List, [], ◌∷◌, ◌++◌, map, flat_map, nat_lt, nat_le, if◌then◌else◌}
use Rattle.std.specs.List.{list_all}
use Rattle.std.specs.Ordering.{is_lt}
use Rattle.std.specs.FinMap.{FinMap, from_entries}
use Rattle.std.specs.FinMap.Entries.{is_sorted}
use Rattle.oper_core.specs.State.{State}
use Rattle.key_entries.specs.Entries.{byte_order}
use Rattle.page_ops.specs.Page.{Cell, page_of, AreShort}
use Rattle.page_ops.specs.Seen.{child_cell}
use Rattle.page_ops.specs.Effects.{to_fill}

-- the objects from one to another, both among them
pub record Range : Type 0 where
  pub lo : ℕ
  pub hi : ℕ

-- keys from one on, and below another where there is one
pub record Span : Type 0 where
  pub from : List ℕ
  pub to : Option (List ℕ)

abbrev pub is_below : List ℕ → Option (List ℕ) → Bool
is_below key None = true
is_below key (Some end) = is_lt (byte_order key end)

abbrev pub is_within : Span → List ℕ → Bool
is_within span key = not (is_lt (byte_order key span.from)) && is_below key span.to

abbrev pub all_keys : Span
all_keys = record { from = []; to = None }

-- A page counts by the cells within its span. Behind them may stand others, which a split that was cut short has left.
pub record Leaf : Type 0 where
  pub object : ℕ
  pub cells : List Cell
  pub past : List Cell

-- an inner page: children, each with the least key that it may have
pub record Inner (Child : Type 0) : Type 0 where
  pub object : ℕ
  pub children : List (List ℕ × Child)
  pub past : List Cell

-- the pages from one of a level downwards: a leaf is on level 0, and each child one level below its page
abbrev pub Tree : ℕ → Type 0
Tree zero = Leaf
Tree (suc level) = Inner (Tree level)

abbrev pub root_of : (level : ℕ) → Tree level → ℕ
root_of zero leaf = leaf.object
root_of (suc level) page = page.object

-- the objects that are reached, and the pairs in all leaves, in order
abbrev pub objects_in : (level : ℕ) → Tree level → List ℕ
objects_in zero leaf = leaf.object ∷ []
objects_in (suc level) page = page.object ∷ flat_map (λ c. objects_in level c.1) page.children

abbrev pub pairs_in : (level : ℕ) → Tree level → List Cell
pairs_in zero leaf = leaf.cells
pairs_in (suc level) page = flat_map (λ c. pairs_in level c.1) page.children

-- all cells of the page at the top
abbrev pub cells_in : (level : ℕ) → Tree level → List Cell
cells_in zero leaf = leaf.cells ++ leaf.past
cells_in (suc level) page = map (λ c. child_cell c.0 (root_of level c.1)) page.children ++ page.past

-- the bytes are the page of this level with these cells, whose keys rise
pub record IsHeld (level : ℕ) (bytes : List ℕ) (cells : List Cell) : Type 0 where
  pub code : bytes ≡ page_of level cells
  pub short : AreShort cells
  pub rise : T (is_sorted byte_order cells)

-- a property of each child
abbrev pub Each : {Child : Type 0} → (Child → Type 0) → List (List ℕ × Child) → Type 0
Each Holds [] = ⊤
Each Holds (c ∷ children) = Holds c.1 × Each Holds children

-- the bytes of an object of the range: an empty root is a leaf without cells
abbrev pub bytes_at : ℕ → State → ℕ → List ℕ
bytes_at root s x = if x == root then to_fill (s x) else s x

-- a child stands in the range and is not the root
abbrev pub is_child : ℕ → ℕ → ℕ → Bool
is_child lo hi x = nat_lt lo x && nat_le x hi

-- the objects of the range hold the pages
abbrev pub Holds : ℕ → ℕ → State → (level : ℕ) → Tree level → Type 0
Holds lo hi s zero leaf = IsHeld zero (bytes_at lo s leaf.object) (cells_in zero leaf)
Holds lo hi s (suc level) page =
    IsHeld (suc level) (bytes_at lo s page.object) (cells_in (suc level) page) × Each (λ child. IsTrue (is_child lo hi (root_of level child)) × Holds lo hi s level child) page.children

-- keys within a span, and keys past it
abbrev pub all_within : Span → List Cell → Bool
all_within span cells = list_all (λ c. is_within span c.0) cells

abbrev pub all_past : Span → List Cell → Bool
all_past span cells = list_all (λ c. not (is_below c.0 span.to)) cells

-- the children share the span: each has it from its key on, up to the key of the next one, which stands in it
abbrev pub Share : {Child : Type 0} → (Span → Child → Type 0) → Span → List (List ℕ × Child) → Type 0
Share In span [] = ⊥
Share In span (c ∷ []) = (c.0 ≡ span.from) × In span c.1
Share In span (c ∷ d ∷ children) =
    (c.0 ≡ span.from) × IsTrue (is_within span d.0) × In (record { from = span.from; to = Some d.0 }) c.1 × Share In (record { from = d.0; to = span.to }) (d ∷ children)

-- the keys of the pages stand in the spans that the pages above leave
abbrev pub StandIn : (level : ℕ) → Span → Tree level → Type 0
StandIn zero span leaf = IsTrue (all_within span leaf.cells) × IsTrue (all_past span leaf.past)
StandIn (suc level) span page = Share (StandIn level) span page.children × IsTrue (all_past span page.past)

abbrev pub one_if : Bool → ℕ
one_if b = if b then 1 else 0

-- so often an object stands in a list
abbrev pub times : ℕ → List ℕ → ℕ
times x [] = 0
times x (y ∷ ys) = one_if (y == x) + times x ys

-- A range of objects is a map: its objects hold pages, the first object the one at the top; their keys stand in their spans, and no
-- object is reached twice.
pub record IsMap (lo hi : ℕ) (s : State) : Type 0 where
  pub order : lo ≤ hi
  pub level : ℕ
  pub tree : Tree level
  pub root : root_of level tree ≡ lo
  pub holds : Holds lo hi s level tree
  pub stand : StandIn level all_keys tree
  pub once : (x : ℕ) → times x (objects_in level tree) ≤ 1

-- the map of all pairs
abbrev pub content_of : {lo hi : ℕ} → {s : State} → IsMap lo hi s → FinMap byte_order (List ℕ)
content_of is = from_entries (pairs_in is.level is.tree)
