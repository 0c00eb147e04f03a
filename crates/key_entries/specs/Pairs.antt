-- Lists of entries as maps, and what a put and a delete make of at most seven pairs.
use Rattle.std.specs.Prelude.{◌≡◌, ℕ, ◌==◌, Bool, not, ◌&&◌, Option, None, Some, List, length, filter, is_some, if◌then◌else◌}
use Rattle.std.specs.Ordering.{eq_by_cmp}
use Rattle.std.specs.FinMap.Entries.{find, put}
use Rattle.key_entries.specs.Entries.{byte_order}

-- the key is there
abbrev pub has : {X : Type 0} → List ℕ → List (List ℕ × X) → Bool
has key entries = is_some (find byte_order key entries)

-- the others
abbrev pub without : {X : Type 0} → List ℕ → List (List ℕ × X) → List (List ℕ × X)
without key entries = filter (λ e. not (eq_by_cmp byte_order key e.0)) entries

-- A key that is there gets the new value, another key stands beside the others, of which there are fewer than seven.
abbrev pub with_pair : List ℕ → List ℕ → List (List ℕ × List ℕ) → Option (List (List ℕ × List ℕ))
with_pair key value pairs = if not (has key pairs) && length pairs == 7 then None else Some (put byte_order key value pairs)

-- the pairs without that of a key which is there
abbrev pub without_pair : List ℕ → List (List ℕ × List ℕ) → Option (List (List ℕ × List ℕ))
without_pair key pairs = if has key pairs then Some (without key pairs) else None

-- one map has this value at the key, and is the other at all others
abbrev pub IsUpdate : {X : Type 0} → List ℕ → Option X → List (List ℕ × X) → List (List ℕ × X) → Type 0
IsUpdate {X} key value old new = (q : List ℕ) → find byte_order q new ≡ (if eq_by_cmp byte_order q key then value else find byte_order q old)
