-- A turn of a standby for which nothing is logged, behind a force of whatever waits.
use Rattle.std.specs.Prelude.{◌≡◌, ℕ, Result, Ok, Err}
use Rattle.disk_model.specs.Disk.{Disk}
use Rattle.disk_model.specs.declared.machine.Failed.{Failed}
use Rattle.oper_core.specs.Meaning.{Meaning}
use Rattle.oper_core.specs.declared.bounds.Bounds.{Bounds}
use Rattle.running_store.specs.declared.store_err.StoreErr.{StoreErr}
use Rattle.running_store.specs.declared.store_err.StoreErr.TheVariants.{DiskFault}
use Rattle.store_engine.specs.Calls.{IsForcing}
use Rattle.store_engine.specs.Engine.{EngineView}
use Rattle.store_engine.specs.Following.{HasTendedThin}

module _ {O T : Type 0} (meaning : Bounds → Meaning O) (disk : T → Disk) (old new : T) (before after : EngineView) where
  -- The log was forced, and then such a turn was taken, of so many nodes at most; or the disk failed in the force.
  pub data HasForcedAndTended (most : ℕ) (result : Result ℕ StoreErr) : Type 0 where
    not_forced : (e : Failed) → IsForcing meaning (disk old) (disk new) before after (Err e) → result ≡ Err DiskFault → HasForcedAndTended most result
    tended : (mid : T) (here : EngineView) (n : ℕ) → IsForcing meaning (disk old) (disk mid) before here (Ok n) → HasTendedThin meaning (disk mid) (disk new) here after most result → HasForcedAndTended most result
