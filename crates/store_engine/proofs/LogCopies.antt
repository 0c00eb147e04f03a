-- How the copy of a log fails.
use Rattle.std.proofs.Common.{◌≡◌, true, refl}
use Rattle.std.specs.Prelude.{◌↔◌, Result, Ok, Err, IsErrOf}
use Rattle.log_records.specs.declared.copy_err.CopyErr.{CopyErr}
use Rattle.log_records.specs.declared.copy_err.CopyErr.TheVariants.{LogFull, DiskFault, TargetFault, Damaged, Memory}
use Rattle.running_store.specs.Calls.Faults.{has_failed, is_copy_fault}

-- the log's own disk failed exactly where the answer says so
pub copy_fails_so : {T : Type 0} (r : Result T CopyErr) → (has_failed is_copy_fault r ≡ true) ↔ IsErrOf r DiskFault
copy_fails_so (Ok value) = (λ is. cc, λ is. cc)
copy_fails_so (Err (LogFull used need limit)) = (λ is. cc, λ is. cc)
copy_fails_so (Err DiskFault) = (λ is. refl, λ is. refl)
copy_fails_so (Err TargetFault) = (λ is. cc, λ is. cc)
copy_fails_so (Err (Damaged file place)) = (λ is. cc, λ is. cc)
copy_fails_so (Err Memory) = (λ is. cc, λ is. cc)
