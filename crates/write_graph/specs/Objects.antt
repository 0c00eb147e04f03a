-- The objects that entries write.
use Rattle.std.specs.Prelude.{ℕ, IsTrue}
use Rattle.install_order.specs.Order.{Access}

-- n writes x
abbrev pub IsWriter : Access → ℕ → ℕ → Type 0
IsWriter a x n = IsTrue (a.writes n x)

-- some operation writes x
abbrev pub IsWritten : Access → ℕ → Type 0
IsWritten a x = (n : ℕ) × IsWriter a x n
