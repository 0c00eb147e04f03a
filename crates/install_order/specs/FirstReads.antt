-- Exposed objects in other words.
use Rattle.std.specs.Prelude.{ℕ, ◌<◌, Bool, ◌⊎◌, IsTrue, IsFalse}
use Rattle.install_order.specs.Order.{Access}

-- n neither reads nor writes x
abbrev pub IsIdle : Access → ℕ → ℕ → Type 0
IsIdle a n x = IsFalse (a.reads n x) × IsFalse (a.writes n x)

-- no operation outside `installed` accesses x, or the first that does reads it
abbrev pub FirstReads : Access → (ℕ → Bool) → ℕ → Type 0
FirstReads a installed x =
    ((o : ℕ) → IsFalse (installed o) → IsIdle a o x)
    ⊎ ((o : ℕ) × IsFalse (installed o) × IsTrue (a.reads o x) × ((q : ℕ) → q < o → IsFalse (installed q) → IsIdle a q x))
