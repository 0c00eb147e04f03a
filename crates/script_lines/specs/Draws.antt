-- The numbers that are drawn from a seed.
use Rattle.std.specs.Prelude.{ℕ, zero, suc, ◌+◌, ◌*◌, ◌/◌, ◌%◌, ◌^◌, List, [], ◌∷◌}

-- a draw makes this of the number g
unfoldable pub next : ℕ → ℕ
next g = (g * 6364136223846793005 + 1442695040888963407) % 2 ^ 64

-- what is drawn at g, below m: from the high bits of the number that the draw makes
unfoldable pub draw : ℕ → ℕ → ℕ
draw m g = next g / 2 ^ 33 % m

-- what so many draws make of g
abbrev pub after_draws : ℕ → ℕ → ℕ
after_draws zero g = g
after_draws (suc n) g = after_draws n (next g)

-- so many bytes, drawn at g and on
abbrev pub bytes_from : ℕ → ℕ → List ℕ
bytes_from zero g = []
bytes_from (suc n) g = draw 256 g ∷ bytes_from n (next g)
