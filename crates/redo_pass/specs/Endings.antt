-- A call that fails as one of those fails that it makes.
use Rattle.std.proofs.Common.{ℕ, ◌≡◌, sym, subst, refl}
use Rattle.std.specs.Prelude.{Result, Ok, Err, IfErr, IsErrAnd}
use Rattle.disk_model.specs.declared.machine.FileNo.{FileNo}
use Rattle.formats.specs.Reading.{FailsBy}
use Rattle.formats.specs.declared.read_err.ReadErr.{ReadErr}
use Rattle.running_store.specs.Calls.{IsFailed, ending_of_read, ending_of_store}
use Rattle.running_store.specs.Calls.Faults.{read_from_store}
use Rattle.running_store.specs.declared.store_err.StoreErr.{StoreErr}
use Rattle.running_store.specs.declared.store_err.StoreErr.TheVariants.{DiskFault, Memory}

-- what is said of the error of a call is said of that of its caller
pub as_error : {T E : Type 0} (P : Result T E → Type 0) (result : Result T E) (why : E) → IsErrAnd result (λ e. e ≡ why) → P (Err why) → P result
as_error P (Ok value) why is said = absurd is
as_error {T} {E} P (Err e) why is said = subst (λ (k : E). P (Err k)) (sym is) said

pub error_fails : {T : Type 0} (rises : Type 0) (fault : FileNo → ℕ → Type 0) (result : Result T ReadErr) (why : ReadErr) → IsErrAnd result (λ e. e ≡ why) → FailsBy rises fault why → IfErr result (FailsBy rises fault)
error_fails rises fault result why = as_error (λ r. IfErr r (FailsBy rises fault)) result why

-- a call that reads nothing ends one that reads, and fails it
pub store_ends : (S T : Type 0) (e : StoreErr) → ending_of_store {T = S} (Err e) ≡ ending_of_read {T = T} (Err (read_from_store e))
store_ends S T DiskFault = refl
store_ends S T Memory = refl

pub store_fails : (T : Type 0) (rises : Type 0) (fault : FileNo → ℕ → Type 0) (e : StoreErr) → (IsFailed (ending_of_read {T = T} (Err (read_from_store e))) → rises) → FailsBy rises fault (read_from_store e)
store_fails T rises fault DiskFault risen = risen tt
store_fails T rises fault Memory risen = tt
