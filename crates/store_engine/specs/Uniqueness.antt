-- What files stand for is fixed by the files.
use Rattle.std.specs.Prelude.{◌≡◌, ℕ, List, length}
use Rattle.oper_core.specs.Meaning.{Meaning, state_after}

-- two lists of commands are of one length, and each object has one value after both
pub record HaveOneState {O : Type 0} (m : Meaning O) (commands others : List O) : Type 0 where
  pub length : length commands ≡ length others
  pub state : (x : ℕ) → state_after m commands x ≡ state_after m others x
