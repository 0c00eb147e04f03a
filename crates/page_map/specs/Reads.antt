-- What is read of a map: its pairs by their keys, one way or the other; and the spans in which the pairs asked for stand.
use Rattle.std.specs.Prelude.{ℕ, suc, ◌==◌, Bool, true, false, ◌&&◌, Option, None, Some, List, [], ◌∷◌, ◌++◌, length, take, reverse, slice_get, nat_lt, if◌then◌else◌}
use Rattle.std.specs.List.{filter, find, list_all}
use Rattle.std.specs.Ordering.{is_lt}
use Rattle.std.specs.FinMap.{FinMap, entries}
use Rattle.key_entries.specs.Entries.{byte_order}
use Rattle.page_ops.specs.Page.{Cell}
use Rattle.page_map.specs.Map.{Span, is_within}

-- a key begins with these bytes
abbrev pub begins_with : List ℕ → List ℕ → Bool
begins_with [] key = true
begins_with (b ∷ bytes) [] = false
begins_with (b ∷ bytes) (c ∷ key) = (b == c) && begins_with bytes key

module _ (m : FinMap byte_order (List ℕ)) where
  -- the pairs whose keys stand in a span, by rising key
  abbrev pub pairs_of : Span → List Cell
  pairs_of span = filter (λ c. is_within span c.0) (entries m)

  -- the first of them, at most so many; and the last ones, by falling key
  abbrev pub range_of : Span → ℕ → List Cell
  range_of span most = take most (pairs_of span)

  abbrev pub back_of : Span → ℕ → List Cell
  back_of span most = take most (reverse (pairs_of span))

  abbrev pub count_of : Span → ℕ
  count_of span = length (pairs_of span)

  abbrev pub first_of : Option Cell
  first_of = slice_get (entries m) 0

  abbrev pub last_of : Option Cell
  last_of = slice_get (reverse (entries m)) 0

  -- the first pair above a key, and the last one below it
  abbrev pub next_of : List ℕ → Option Cell
  next_of key = find (λ c. is_lt (byte_order key c.0)) (entries m)

  abbrev pub prev_of : List ℕ → Option Cell
  prev_of key = find (λ c. is_lt (byte_order c.0 key)) (reverse (entries m))

  -- the pairs whose keys begin with these bytes
  abbrev pub prefix_of : List ℕ → List Cell
  prefix_of bytes = filter (λ c. begins_with bytes c.0) (entries m)

-- the keys above one, of which the least has a byte 0 behind it; and those below one
abbrev pub above : List ℕ → Span
above key = record { from = key ++ 0 ∷ []; to = None }

abbrev pub below : List ℕ → Span
below key = record { from = []; to = Some key }

-- the least key behind all that begin with these bytes, where there is one: the last byte that is not 255 is raised, and the others go
abbrev pub raised : ℕ → Option (List ℕ) → Option (List ℕ)
raised b (Some end) = Some (b ∷ end)
raised b None = if b == 255 then None else Some (suc b ∷ [])

abbrev pub prefix_end : List ℕ → Option (List ℕ)
prefix_end [] = None
prefix_end (b ∷ bytes) = raised b (prefix_end bytes)

abbrev pub prefix_span : List ℕ → Span
prefix_span bytes = record { from = bytes; to = prefix_end bytes }

abbrev pub are_bytes : List ℕ → Bool
are_bytes key = list_all (λ b. nat_lt b 256) key
