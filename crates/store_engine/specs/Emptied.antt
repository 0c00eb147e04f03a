-- A log of which nothing is left but its last checkpoint.
use Rattle.std.specs.Prelude.{◌≡◌, ◌-◌, [], drop}
use Rattle.explain_core.specs.World.{World, end_of}

-- it begins at the next LSN, and has no command and no identity write
pub record IsEmptied {O : Type 0} (w : World O) : Type 0 where
  pub base : w.base ≡ end_of w
  pub records : drop (w.base - 1) w.history ≡ []
