-- Upkeep that was done, or failed.
use Rattle.std.proofs.Common.{◌≡◌, subst, Result, Ok, Err}
use Rattle.disk_model.specs.Disk.{Disk, Rises}
use Rattle.formats.specs.declared.read_err.ReadErr.{ReadErr}
use Rattle.formats.specs.declared.read_err.ReadErr.TheVariants.{Damaged, DiskFault, Memory}
use Rattle.running_store.specs.Calls.{IsFailed, ending_of_read}
use Rattle.shell_base.specs.Status.{stop_from_read}
use Rattle.shell_base.specs.Stops.{IsCaused}

pub read_well : {T : Type 0} (answer : Result T ReadErr) (value : T) → answer ≡ Ok value → IsFailed (ending_of_read answer) → ⊥
read_well (Ok value) same is failed = failed
read_well (Err e) value is failed = cc is

caused : (T : Type 0) (old new : Disk) (e : ReadErr) → (IsFailed (ending_of_read {T = T} (Err e)) → Rises old.disk_faults new.disk_faults) → IsCaused (stop_from_read e) old new
caused T old new DiskFault fault = fault tt
caused T old new (Damaged file place) fault = tt
caused T old new Memory fault = tt

pub read_caused : {T : Type 0} (old new : Disk) (answer : Result T ReadErr) (e : ReadErr) → answer ≡ Err e → (IsFailed (ending_of_read answer) → Rises old.disk_faults new.disk_faults) → IsCaused (stop_from_read e) old new
read_caused {T} old new answer e is fault = caused T old new e (subst (λ (r : Result T ReadErr). IsFailed (ending_of_read r) → Rises old.disk_faults new.disk_faults) is fault)
