-- How much an install and a drain log.
use Rattle.std.specs.Prelude.{◌≡◌, ◌<◌, ◌≤◌, ℕ, nat_eq, IsTrue, All, List, [], length, ◌⊎◌}
use Rattle.std.specs.List.{IsDistinct}
use Rattle.oper_core.specs.Meaning.{Meaning}
use Rattle.explain_core.specs.Turns.{is_dirty_in, dirty_in}
use Rattle.explain_core.specs.World.{World}

-- the objects are different ones that are dirty in the world, at most as many as these; where nothing is copied there are
-- none, or fewer
pub record AreFewLogged {O : Type 0} (m : Meaning O) (copied : ℕ) (w : World O) (objects : List ℕ) : Type 0 where
  pub apart : IsDistinct nat_eq objects
  pub dirty : All (λ x. IsTrue (is_dirty_in w x)) objects
  pub few : length objects ≤ dirty_in m w
  pub fewer : copied ≡ 0 → (objects ≡ []) ⊎ (length objects < dirty_in m w)
