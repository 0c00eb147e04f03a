-- Where a key stands among cells whose keys rise.
use Rattle.std.specs.Prelude.{ℕ, suc, Option, None, Some, List, [], ◌∷◌, if◌then◌else◌}
use Rattle.std.specs.Ordering.{is_lt}
use Rattle.key_entries.specs.Entries.{byte_order}
use Rattle.page_ops.specs.Page.{Cell}

-- how many cells from the front have keys below the key
abbrev pub place_for : List ℕ → List Cell → ℕ
place_for key [] = 0
place_for key (c ∷ cells) = if is_lt (byte_order c.0 key) then suc (place_for key cells) else 0

abbrev pub next_under : Option ℕ → Option ℕ
next_under None = Some 0
next_under (Some i) = Some (suc i)

-- the last cell, from the front on, whose key is not above the key
abbrev pub last_under : List ℕ → List Cell → Option ℕ
last_under key [] = None
last_under key (c ∷ cells) = if is_lt (byte_order key c.0) then None else next_under (last_under key cells)
