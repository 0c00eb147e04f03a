-- The places for dirty entries: pairs of an object and an entry, or none.
use Rattle.std.specs.Prelude.{ℕ, List, Option, None, Some, nat_eq}
use Rattle.std.specs.List.{sum_by}
use Rattle.std.specs.Map.{lookup, values_of}
use Rattle.std.specs.Option.{option_flatten, option_len}
use Rattle.dirty_cache.specs.declared.entry.Entry.{Entry}

-- the entry in the place of x
abbrev pub entry_at : List (ℕ × Option Entry) → ℕ → Option Entry
entry_at places x = option_flatten (lookup (nat_eq x) places)

-- how many places hold an entry
abbrev pub count_of : List (ℕ × Option Entry) → ℕ
count_of places = sum_by option_len (values_of places)

-- the entry with another value
abbrev pub with_bytes : List ℕ → Entry → Entry
with_bytes bytes e = record { lsn = e.lsn; bytes = bytes }

-- the value of an entry, if there is one, or else another
abbrev pub bytes_or : Option Entry → List ℕ → List ℕ
bytes_or None bytes = bytes
bytes_or (Some e) bytes = e.bytes
