-- Installed members explain a state.
use Rattle.std.specs.Prelude.{◌≡◌, ℕ, ◌<◌, Bool, IsTrue, IsFalse, [], ◌⊎◌}
use Rattle.oper_core.specs.State.{State}
use Rattle.oper_core.specs.Cell.{Cell}
use Rattle.install_order.specs.Order.{Access, IsClosed, IsExposed}

-- the members in `installed` explain the cells of a state, where `values n` is the state after the first n members
pub record Explains (a : Access) (values : ℕ → State) (installed : ℕ → Bool) (state : ℕ → Cell) : Type 0 where
  -- nobody outside accesses what a later installed member writes
  pub closed : IsClosed a installed
  -- each object is empty under the LSN 0, or bears the LSN of an installed member that writes it
  pub origin : (x : ℕ) → (((state x).lsn ≡ 0) × ((state x).value ≡ [])) ⊎ (IsTrue (installed (state x).lsn) × IsTrue (a.writes (state x).lsn x))
  -- an exposed object bears the number of the last installed member that writes it
  pub last : (x : ℕ) → IsExposed a installed x → (n : ℕ) → (state x).lsn < n → IsTrue (installed n) → IsFalse (a.writes n x)
  -- and has the value that this member made
  pub right : (x : ℕ) → IsExposed a installed x → (state x).value ≡ values (state x).lsn x
