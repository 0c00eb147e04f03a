-- Calls of SCAN that follow each other.
use Rattle.std.specs.Prelude.{◌≡◌, ◌≢◌, ◌⊎◌, ℕ, Bool, List, [], ◌∷◌}
use Rattle.std.specs.List.{list_any}
use Rattle.std.specs.Str.{bytes_eq}
use Rattle.named_words.specs.Effects.{Names, cursor_behind, names_below, names_from}

-- From a cursor to the end: each call is made on the names of its moment, with a count, and begins where the one before it ended.
abbrev pub Scans : ℕ → List (Names × ℕ) → List (List (List ℕ)) → Type 0
Scans cursor [] pages = ⊥
Scans cursor (call ∷ calls) [] = ⊥
Scans cursor (call ∷ calls) (page ∷ pages) =
    let next = cursor_behind call.1 (names_from call.0 cursor) in
    (page ≡ names_below next (names_from call.0 cursor)) × ((next ≡ 0) ⊎ ((next ≢ 0) × Scans next calls pages))

abbrev pub is_on : List ℕ → List (List ℕ) → Bool
is_on name page = list_any (bytes_eq name) page

-- a name is on one of the pages
abbrev pub is_answered : List ℕ → List (List (List ℕ)) → Bool
is_answered name pages = list_any (is_on name) pages
