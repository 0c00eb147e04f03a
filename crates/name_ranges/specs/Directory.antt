-- Directories: what a map has for names.
use Rattle.std.specs.Prelude.{◌≡◌, ◌≢◌, ◌<◌, ◌/◌, ◌-◌, ℕ, Option, None, Some, List, ◌++◌, drop, length, nat_le, if◌then◌else◌, option_map}
use Rattle.std.specs.FinMap.{FinMap, get}
use Rattle.byteorder.specs.Endian.{big_bytes, little_bytes, little_number}
use Rattle.oper_core.specs.declared.bounds.Bounds.{Bounds}
use Rattle.key_entries.specs.Entries.{byte_order}
use Rattle.page_map.specs.Map.{Span}
use Rattle.page_map.specs.Sets.{room_of}
use Rattle.named_words.specs.Effects.{Sizes, place_of}

-- the key of a name: its place, the highest byte first, and then the name. So keys are in the order of places.
abbrev pub key_of : List ℕ → List ℕ
key_of name = big_bytes 8 (place_of name) ++ name

-- the keys of the names whose place is not before one
abbrev pub from_place : ℕ → Span
from_place place = record { from = big_bytes 8 place; to = None }

-- the name of a key
abbrev pub name_in : List ℕ → List ℕ
name_in key = drop 8 key

-- the number of an object as the value of a key, and read back
abbrev pub number_bytes : ℕ → List ℕ
number_bytes x = little_bytes 4 x

abbrev pub number_in : List ℕ → ℕ
number_in bytes = little_number 4 bytes

-- from the keys of names to the numbers of objects
abbrev pub Directory : Type 0
Directory = FinMap byte_order (List ℕ)

abbrev pub object_of : Directory → List ℕ → Option ℕ
object_of directory name = option_map number_in (get directory (key_of name))

-- Each key is that of a name, no two names have one object, and each of these stands behind one object and before another.
pub record IsDirectory (hi objects : ℕ) (directory : Directory) : Type 0 where
  pub whole : (key number : List ℕ) → get directory key ≡ Some number → (key ≡ key_of (name_in key)) × (length number ≡ 4)
  pub apart : (name other : List ℕ) (x : ℕ) → object_of directory name ≡ Some x → object_of directory other ≡ Some x → name ≡ other
  pub within : (name : List ℕ) (x : ℕ) → object_of directory name ≡ Some x → (hi < x) × (x < objects)

-- an object there that no name has
pub record IsSpare (hi objects : ℕ) (directory : Directory) (x : ℕ) : Type 0 where
  pub behind : hi < x
  pub before : x < objects
  pub nameless : (name : List ℕ) → object_of directory name ≢ Some x

-- how many bytes a name and a value have at most, in a store of these bounds: such a key is one that a map takes
abbrev pub name_most : ℕ → ℕ
name_most room = if nat_le 1015 (room / 8 - 16) then 1015 else room / 8 - 16

abbrev pub sizes_of : Bounds → Sizes
sizes_of b = record { name = name_most (room_of b.cap); value = b.cap }
