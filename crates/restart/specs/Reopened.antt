-- The world after a restart.
use Rattle.std.specs.Prelude.{◌≡◌, take}
use Rattle.oper_core.specs.Meaning.{Meaning}
use Rattle.explain_core.specs.History.{commands_of}
use Rattle.explain_core.specs.World.{World, IsAllStable}
use Rattle.running_store.specs.Running.{IsRunning}

-- Calls may be made in it, its commands are those that were stable before, and all of them are.
pub record IsReopened {O : Type 0} (m : Meaning O) (w v : World O) : Type 0 where
  pub running : IsRunning m v
  pub commands : commands_of v.history ≡ commands_of (take w.forced w.history)
  pub stable : IsAllStable v
