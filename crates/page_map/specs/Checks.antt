-- Whether a range is a map, as it is found one page after the other: a page is met, and then all that is below it, child by child.
use Rattle.std.specs.Prelude.{◌≡◌, ◌<◌, ◌^◌, ℕ, zero, suc, ◌+◌, ◌-◌, ◌==◌, Bool, true, false, not, ◌&&◌, Option, None, Some, Result, Ok, Err, List, [], ◌∷◌, ◌++◌, flat_map, is_some, length, nat_lt, nat_le, slice_index_or, if◌then◌else◌}
use Rattle.std.specs.List.{list_all}
use Rattle.std.specs.Ordering.{is_eq, is_lt}
use Rattle.std.specs.FinMap.Entries.{is_sorted}
use Rattle.byteorder.specs.Endian.{little_bytes, little_number}
use Rattle.oper_core.specs.State.{State}
use Rattle.key_entries.specs.Entries.{byte_order}
use Rattle.page_ops.specs.Page.{Cell, page_of}
use Rattle.page_ops.specs.Reading.{level_in}
use Rattle.page_map.specs.Map.{Range, Tree, objects_in, pairs_in, bytes_at, is_child, IsMap, one_if, times}
use Rattle.page_map.specs.Splits.{cells_read, front_of}
use Rattle.page_map.specs.declared.awaited.Awaited.{Awaited}

-- What was met so far: the objects, in this order, how many pairs their leaves have, and how many cells stand past the spans of
-- their pages.
pub record Met : Type 0 where
  pub objects : List ℕ
  pub keys : ℕ
  pub past : ℕ

-- the cells past the spans of the pages of a tree, which a call that was cut short has left
abbrev pub past_in : (level : ℕ) → Tree level → List Cell
past_in zero leaf = leaf.past
past_in (suc level) page = page.past ++ flat_map (λ c. past_in level c.1) page.children

-- what is met on a map
abbrev pub met_on : {lo hi : ℕ} → {s : State} → IsMap lo hi s → Met
met_on is = record { objects = objects_in is.level is.tree; keys = length (pairs_in is.level is.tree); past = length (past_in is.level is.tree) }

-- the bytes are those of a page of this level with the cells that they read as, whose keys rise
abbrev pub is_page : ℕ → List ℕ → Bool
is_page level bytes = nat_lt (length bytes) 65536 && (is_eq (byte_order bytes (page_of level (cells_read bytes))) && is_sorted byte_order (cells_read bytes))

-- the first key is not below one; or there is a first key, and it is this one
abbrev pub begin_from : List ℕ → List Cell → Bool
begin_from key [] = true
begin_from key (c ∷ cells) = not (is_lt (byte_order c.0 key))

abbrev pub begin_with : List ℕ → List Cell → Bool
begin_with key [] = false
begin_with key (c ∷ cells) = is_eq (byte_order c.0 key)

-- the key of the first cell, or where the span ends
abbrev pub next_key : Option (List ℕ) → List Cell → Option (List ℕ)
next_key to [] = to
next_key to (c ∷ cells) = Some c.0

-- the children of cells, on a level, each with the keys from its own on, up to the next one
abbrev pub children_of : ℕ → Option (List ℕ) → List Cell → List Awaited
children_of level to [] = []
children_of level to (c ∷ cells) = record { object = little_number 4 c.1; level = level; from = c.0; to = next_key to cells } ∷ children_of level to cells

-- what is below a page of a level that has these cells before the end of its span
abbrev pub below_cells : ℕ → Option (List ℕ) → List Cell → List Awaited
below_cells zero to front = []
below_cells (suc level) to front = children_of level to front

-- a leaf counts its cells
abbrev pub keys_of : ℕ → List Cell → ℕ
keys_of zero front = length front
keys_of (suc level) front = 0

-- an object more, with its cells: some stand before the end of its span, and the others past it
abbrev pub with_page : Awaited → List Cell → Met → Met
with_page x cells met = record {
  objects = met.objects ++ x.object ∷ [];
  keys = met.keys + keys_of x.level (front_of x.to cells);
  past = met.past + (length cells - length (front_of x.to cells));
}

module _ (range : Range) where
  -- the child that the four bytes beside a key are the number of
  abbrev pub child_beside : List ℕ → Option ℕ
  child_beside bytes = if is_eq (byte_order bytes (little_bytes 4 (little_number 4 bytes))) && is_child range.lo range.hi (little_number 4 bytes) then Some (little_number 4 bytes) else None

  abbrev pub has_child : Cell → Bool
  has_child c = is_some (child_beside c.1)

  -- The cells of a page that stand before the end of its span: those of a leaf begin in the span, and those of a page on a higher
  -- level begin with it, and name children.
  abbrev pub stand : ℕ → List ℕ → List Cell → Bool
  stand zero from front = begin_from from front
  stand (suc level) from front = begin_with from front && list_all has_child front

  -- the bytes are the page that is awaited
  abbrev pub fits : Awaited → List ℕ → Bool
  fits x bytes = is_page x.level bytes && stand x.level x.from (front_of x.to (cells_read bytes))

  -- an object of the range that was not met
  abbrev pub is_new : List ℕ → ℕ → Bool
  is_new objects x = nat_le range.lo x && (nat_le x range.hi && (times x objects == 0))

abbrev pub and_then : {A B : Type 0} → (A → Result B ℕ) → Result A ℕ → Result B ℕ
and_then f (Ok a) = f a
and_then f (Err bad) = Err bad

-- one after the other
abbrev pub meet_each : (Awaited → Met → Result Met ℕ) → List Awaited → Met → Result Met ℕ
meet_each meet [] met = Ok met
meet_each meet (x ∷ xs) met = and_then (meet_each meet xs) (meet x met)

module _ (range : Range) (s : State) where
  abbrev pub bytes_of : Awaited → List ℕ
  bytes_of x = bytes_at range.lo s x.object

  -- an object alone: it is bad where it was met before, or does not hold the page
  abbrev pub meet_one : Awaited → Met → Result Met ℕ
  meet_one x met = if is_new range met.objects x.object && fits range x (bytes_of x) then Ok (with_page x (cells_read (bytes_of x)) met) else Err x.object

  abbrev pub below : Awaited → List Awaited
  below x = below_cells x.level x.to (front_of x.to (cells_read (bytes_of x)))

  -- an object on a level, and all that is below it
  abbrev pub meet : ℕ → Awaited → Met → Result Met ℕ
  meet zero x met = meet_one x met
  meet (suc level) x met = and_then (meet_each (meet level) (below x)) (meet_one x met)

  abbrev pub meet_all : List Awaited → Met → Result Met ℕ
  meet_all xs met = meet_each (λ x. meet x.level x) xs met

-- How far a check has come: what is awaited, and what was met.
pub record Checking : Type 0 where
  pub range : Range
  pub waiting : List Awaited
  pub met : Met

-- the root is awaited, on a level
abbrev pub begun : Range → ℕ → Checking
begun range level = record { range = range; waiting = record { object = range.lo; level = level; from = []; to = None } ∷ []; met = record { objects = []; keys = 0; past = 0 } }

-- a page is met that has these cells
abbrev pub taken : Awaited → List Cell → Checking → Checking
taken x cells c = record { range = c.range; waiting = below_cells x.level x.to (front_of x.to cells) ++ c.waiting; met = with_page x cells c.met }

-- another page comes before what is awaited
abbrev pub before : Awaited → Checking → Checking
before x c = record { range = c.range; waiting = x ∷ c.waiting; met = c.met }

-- the bytes are the page that is awaited at an object which was not met
abbrev pub is_met : Awaited → List ℕ → Checking → Bool
is_met x bytes c = is_new c.range c.met.objects x.object && fits c.range x bytes

-- what a check comes to from there on
abbrev pub check_from : State → Checking → Result Met ℕ
check_from s c = meet_all c.range s c.waiting c.met

-- What a range has as a map, or the first object that is bad. The root has all keys, and its bytes tell its level.
abbrev pub check : Range → State → Result Met ℕ
check range s = check_from s (begun range (level_in (bytes_at range.lo s range.lo)))

-- ---- as code has it

pub record Reached : Type 0 where
  pub range : Range
  pub objects : List ℕ

-- how many marks there are
abbrev pub marked : List Bool → ℕ
marked [] = 0
marked (mark ∷ marks) = one_if mark + marked marks

-- each object of the range has a mark where it was met, and as many objects were met as there are marks
pub record IsMarked (range : Range) (marks : List Bool) (objects : List ℕ) : Type 0 where
  pub size : length marks ≡ suc (range.hi - range.lo)
  pub few : length marks < 2 ^ 33
  pub each : (k : ℕ) → k < length marks → slice_index_or marks k false ≡ nat_lt 0 (times (range.lo + k) objects)
  pub count : marked marks ≡ length objects
