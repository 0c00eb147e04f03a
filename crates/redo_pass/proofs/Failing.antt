-- How a redo ends by a call that fails.
use Rattle.std.proofs.Common.{ℕ, ◌≡◌, true, refl}
use Rattle.std.specs.Prelude.{◌↔◌, Err}
use Rattle.disk_model.specs.declared.machine.FileNo.{FileNo}
use Rattle.formats.specs.Reading.{FailsBy}
use Rattle.formats.specs.declared.read_err.ReadErr.{ReadErr}
use Rattle.formats.specs.declared.read_err.ReadErr.TheVariants.{DiskFault, Damaged, Memory}
use Rattle.running_store.specs.Calls.{IsFailed, ending_of_read, ending_of_store}
use Rattle.running_store.specs.Courses.{Stop}
use Rattle.running_store.specs.Calls.Faults.{is_read_fault}
use Rattle.running_store.specs.Taking.Ending.{Stopped}
use Rattle.running_store.specs.declared.store_err.StoreErr.{StoreErr}
use Rattle.running_store.specs.declared.store_err.StoreErr.TheVariants as of_store

-- it is not stopped
pub never_stopped : (T : Type 0) (e : ReadErr) (stop : Stop) → ending_of_read {T = T} (Err e) ≡ Stopped stop → ⊥
never_stopped T DiskFault stop is = cc
never_stopped T (Damaged file place) stop is = cc
never_stopped T Memory stop is = cc

-- where the disk ends it, that is counted
pub rises_of : (T : Type 0) (rises : Type 0) (fault : FileNo → ℕ → Type 0) (e : ReadErr) → FailsBy rises fault e → IsFailed (ending_of_read {T = T} (Err e)) → rises
rises_of T rises fault DiskFault fails failed = fails
rises_of T rises fault (Damaged file place) fails failed = absurd failed
rises_of T rises fault Memory fails failed = absurd failed

pub read_failed : (T : Type 0) (e : ReadErr) → (is_read_fault e ≡ true) ↔ IsFailed (ending_of_read {T = T} (Err e))
read_failed T DiskFault = (λ is. tt, λ failed. refl)
read_failed T (Damaged file place) = (λ is. cc, λ failed. absurd failed)
read_failed T Memory = (λ is. cc, λ failed. absurd failed)

-- an install that fails ends its caller so too
pub thin_same : (S T : Type 0) (e : StoreErr) → ending_of_store {T = S} (Err e) ≡ ending_of_store {T = T} (Err e)
thin_same S T of_store.DiskFault = refl
thin_same S T of_store.Memory = refl
