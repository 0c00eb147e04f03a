-- The way from the root of a map to a leaf, over the bytes of the objects, and what is found there.
use Rattle.std.specs.Prelude.{ℕ, zero, suc, ◌==◌, Bool, ◌&&◌, Option, None, Some, Result, Ok, Err, List, length, nat_le, if◌then◌else◌}
use Rattle.oper_core.specs.State.{State}
use Rattle.page_ops.specs.Reading.{beside_of, child_of, found_in, has_cell, level_in, opens, under}
use Rattle.page_map.specs.Map.{bytes_at, is_child}

-- a page of this level
abbrev pub is_on : ℕ → List ℕ → Bool
is_on level bytes = opens bytes && (level_in bytes == level)

-- a cell is there, with the four bytes of a child beside its key
abbrev pub names_child : List ℕ → ℕ → Bool
names_child bytes i = has_cell bytes i && nat_le 4 (length (beside_of bytes i))

-- the child of a cell, where it stands in the range and is not the root
abbrev pub child_in : ℕ → ℕ → List ℕ → ℕ → Option ℕ
child_in lo hi bytes i = if names_child bytes i && is_child lo hi (child_of bytes i) then Some (child_of bytes i) else None

-- the child under which a key stands: that of the last cell whose key is not above it
abbrev pub child_for : ℕ → ℕ → List ℕ → Option ℕ → Option ℕ
child_for lo hi bytes None = None
child_for lo hi bytes (Some i) = child_in lo hi bytes i

-- the way goes on from a child, or the object is bad
abbrev pub on_from : (ℕ → Result ℕ ℕ) → ℕ → Option ℕ → Result ℕ ℕ
on_from on x None = Err x
on_from on x (Some child) = on child

module _ (lo hi : ℕ) where
  -- the leaf under which a key stands, from an object on a level, or the first object on the way that does not fit
  abbrev pub walk_from : State → List ℕ → ℕ → ℕ → Result ℕ ℕ
  walk_from s key zero x = if is_on 0 (bytes_at lo s x) then Ok x else Err x
  walk_from s key (suc level) x =
      if is_on (suc level) (bytes_at lo s x) then on_from (walk_from s key level) x (child_for lo hi (bytes_at lo s x) (under (bytes_at lo s x) key)) else Err x

  -- from the root on, whose level its page tells
  abbrev pub walk : State → List ℕ → Result ℕ ℕ
  walk s key = walk_from s key (level_in (bytes_at lo s lo)) lo

-- what the leaf of a key has at it
abbrev pub get_in : List ℕ → ℕ → Option (Option (List ℕ)) → Result (Option (List ℕ)) ℕ
get_in key x None = Err x
get_in key x (Some found) = Ok found

abbrev pub get_at : ℕ → State → List ℕ → Result ℕ ℕ → Result (Option (List ℕ)) ℕ
get_at lo s key (Err bad) = Err bad
get_at lo s key (Ok x) = get_in key x (found_in (bytes_at lo s x) key)

-- the answer of a get: the value of the key where it is there, or the first object on the way that does not fit
abbrev pub get_answer : ℕ → ℕ → State → List ℕ → Result (Option (List ℕ)) ℕ
get_answer lo hi s key = get_at lo s key (walk lo hi s key)
