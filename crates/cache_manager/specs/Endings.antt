-- How installs and drains end.
use Rattle.std.proofs.Common.{◌≡◌, ◌∙◌, sym, subst, refl}
use Rattle.std.specs.Prelude.{IsErrAnd, Result, Ok, Err}
use Rattle.std.proofs.lemmas.Result.{err_from_is_err_and}
use Rattle.running_store.specs.Courses.Stop.{Full, At_end}
use Rattle.running_store.specs.Taking.{Ending}
use Rattle.running_store.specs.Taking.Ending.{Done, Stopped, Short, Failed}
use Rattle.running_store.specs.Taking.Laws.{IsCut}
use Rattle.cache_manager.specs.declared.install_err.InstallErr.{InstallErr}
use Rattle.cache_manager.specs.declared.install_err.InstallErr.TheVariants.{LogFull, LsnEnd, DiskFault, Memory}

-- how a call ended that answers so
abbrev pub ending_of_error : InstallErr → Ending
ending_of_error (LogFull used need limit) = Stopped (Full used need limit)
ending_of_error (LsnEnd lsn) = Stopped (At_end lsn)
ending_of_error Memory = Short
ending_of_error DiskFault = Failed

abbrev pub ending_of : {T : Type 0} → Result T InstallErr → Ending
ending_of (Ok value) = Done
ending_of (Err e) = ending_of_error e

-- what holds of the error that a call hands on holds of its result
pub at_err : {T E : Type 0} (P : Result T E → Type 0) (r : Result T E) (e : E) → IsErrAnd r (λ k. k ≡ e) → P (Err e) → P r
at_err P r e is here = let q = err_from_is_err_and r is in subst P (sym (q.1 ∙ (λ i. Err (q.2 i)))) here

-- an error that is handed on ends a call as it ended the call below
pub failed_ends : {T : Type 0} (r : Result T InstallErr) → IsErrAnd r (λ e. e ≡ DiskFault) → Failed ≡ ending_of r
failed_ends r is = at_err (λ k. Failed ≡ ending_of k) r DiskFault is refl

pub short_ends : {T : Type 0} (r : Result T InstallErr) → IsErrAnd r (λ e. e ≡ Memory) → Short ≡ ending_of r
short_ends r is = at_err (λ k. Short ≡ ending_of k) r Memory is refl

pub same_ends : {T : Type 0} (r : Result T InstallErr) (e : InstallErr) → IsErrAnd r (λ k. k ≡ e) → ending_of_error e ≡ ending_of r
same_ends r e is = at_err (λ k. ending_of_error e ≡ ending_of k) r e is refl

-- and nothing comes after it
pub err_cuts : (e : InstallErr) → IsCut (ending_of_error e)
err_cuts (LogFull used need limit) = refl
err_cuts (LsnEnd lsn) = refl
err_cuts DiskFault = tt
err_cuts Memory = tt
