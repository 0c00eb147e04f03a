-- Where a slot is not read, a command ends as the fetch did.
use Rattle.std.proofs.Common.{◌≡◌, refl, true}
use Rattle.std.specs.Prelude.{◌↔◌}
use Rattle.formats.specs.declared.read_err.ReadErr.{ReadErr}
use Rattle.formats.specs.declared.read_err.ReadErr.TheVariants as of_read
use Rattle.running_store.specs.Calls.{IsFailed}
use Rattle.running_store.specs.Calls.Faults.{is_read_fault}
use Rattle.execution.specs.Answers.{ending_of_error}
use Rattle.execution.specs.Failures.{exec_from_read}

pub fetched_ends : (e : ReadErr) → (is_read_fault e ≡ true) ↔ IsFailed (ending_of_error (exec_from_read e))
fetched_ends of_read.DiskFault = (λ is. tt, λ failed. refl)
fetched_ends (of_read.Damaged file place) = (λ is. cc, λ failed. absurd failed)
fetched_ends of_read.Memory = (λ is. cc, λ failed. absurd failed)
