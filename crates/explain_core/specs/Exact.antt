-- Which parts of the uninstalled members can be installed by writing current versions.
use Rattle.std.specs.Prelude.{ℕ, zero, suc, nat_le, not, Bool, ◌&&◌, ◌||◌, if◌then◌else◌, IsTrue, List, length}
use Rattle.oper_core.specs.Meaning.{Meaning}
use Rattle.install_order.specs.Order.{Access}
use Rattle.explain_core.specs.History.{Member, accesses_of, value_at}
use Rattle.oper_core.specs.Cell.{Cell}
use Rattle.explain_core.specs.Explains.{Explains}

-- the last LSN below n that writes x, or 0
abbrev pub last_writer : Access → ℕ → ℕ → ℕ
last_writer a zero x = 0
last_writer a (suc n) x = if a.writes n x then n else last_writer a n x

-- each object's last LSN and value
abbrev pub current : {O : Type 0} → Meaning O → List (Member O) → ℕ → Cell
current m h x = let n = last_writer (accesses_of m h) (suc (length h)) x in record { lsn = n; value = value_at m h n x }

-- the members that are not installed
abbrev pub rest_of : {O : Type 0} → List (Member O) → (ℕ → Bool) → ℕ → Bool
rest_of h installed n = nat_le n (length h) && not (installed n)

-- with the current versions of some objects, the installed members and the part explain the state
abbrev pub CanInstall : {O : Type 0} → Meaning O → List (Member O) → (ℕ → Bool) → (ℕ → Bool) → (ℕ → Cell) → Type 0
CanInstall m h installed part state = (written : ℕ → Bool) × Explains (accesses_of m h) (value_at m h) (λ n. part n || installed n) (λ x. if written x then current m h x else state x)

-- each member of the part is one of the whole
abbrev pub IsPartOf : (ℕ → Bool) → (ℕ → Bool) → Type 0
IsPartOf part whole = (n : ℕ) → IsTrue (part n) → IsTrue (whole n)
