-- Walks along a table of links.
use Rattle.std.specs.Prelude.{ℕ, zero, suc, List, [], ◌∷◌, slice_index}

-- so many numbers, from the first on
abbrev pub follow : List ℕ → ℕ → ℕ → List ℕ
follow next zero first = []
follow next (suc k) first = first ∷ follow next k (slice_index next first)
