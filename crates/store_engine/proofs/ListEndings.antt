-- Properties that tell one ending, or one answer, from the others: a value that has one differs from each that lacks it.
use Rattle.std.proofs.Common.{ℕ}
use Rattle.std.specs.Prelude.{⊤, Result, Ok, Err}
use Rattle.running_store.specs.Taking.{Ending}
use Rattle.running_store.specs.Taking.Ending.{Done, Stopped, Short, Failed}
use Rattle.execution.specs.declared.exec_err.ExecErr.{ExecErr}
use Rattle.execution.specs.declared.exec_err.ExecErr.TheVariants.{Refused, LogFull, LsnEnd, DiskFault, Damaged, Memory}

-- the log did not stop it
abbrev pub IsUnstopped : Ending → Type 0
IsUnstopped (Stopped stop) = ⊥
IsUnstopped Done = ⊤
IsUnstopped Short = ⊤
IsUnstopped Failed = ⊤

-- the disk did not fail
abbrev pub IsNoFault : ExecErr → Type 0
IsNoFault DiskFault = ⊥
IsNoFault (Refused refusal) = ⊤
IsNoFault (LogFull used need limit) = ⊤
IsNoFault (LsnEnd lsn) = ⊤
IsNoFault (Damaged file place) = ⊤
IsNoFault Memory = ⊤

abbrev pub EndsWithNoFault : Result ℕ ExecErr → Type 0
EndsWithNoFault (Ok n) = ⊤
EndsWithNoFault (Err e) = IsNoFault e
