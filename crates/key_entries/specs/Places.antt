-- Where a key stands among keys that rise, or would stand.
use Rattle.std.specs.Prelude.{ℕ, suc, Result, Ok, Err, List, [], ◌∷◌}
use Rattle.std.specs.FinMap.Entries.{by_order}
use Rattle.key_entries.specs.Entries.{byte_order}

-- one place on
abbrev pub one_on : Result ℕ ℕ → Result ℕ ℕ
one_on (Ok i) = Ok (suc i)
one_on (Err i) = Err (suc i)

-- the place of the key, or else of the first key above it
abbrev pub place_in : {X : Type 0} → List ℕ → List (List ℕ × X) → Result ℕ ℕ
place_in key [] = Err 0
place_in key (e ∷ es) = by_order (byte_order key e.0) (Err 0) (Ok 0) (one_on (place_in key es))
