-- Commands that nothing refuses, one after the other.
use Rattle.std.specs.Prelude.{⊤, List, [], ◌∷◌, Option, None, Some}
use Rattle.oper_core.specs.State.{State}
use Rattle.oper_core.specs.Meaning.{Accepts, Meaning, after}
use Rattle.execution.specs.declared.exec_err.ExecErr.{ExecErr}
use Rattle.execution.specs.declared.exec_err.ExecErr.TheVariants.{Refused, LogFull, LsnEnd, DiskFault, Damaged, Memory}

-- each is accepted on the state after those before it
abbrev pub AreAccepted : {O : Type 0} → Meaning O → State → List O → Type 0
AreAccepted m s [] = ⊤
AreAccepted m s (op ∷ ops) = Accepts m s op × AreAccepted m (after m s op) ops

-- it is not the answer that a command is refused
abbrev pub IsNoRefusal : Option ExecErr → Type 0
IsNoRefusal None = ⊤
IsNoRefusal (Some (Refused refusal)) = ⊥
IsNoRefusal (Some (LogFull used need limit)) = ⊤
IsNoRefusal (Some (LsnEnd lsn)) = ⊤
IsNoRefusal (Some DiskFault) = ⊤
IsNoRefusal (Some (Damaged file place)) = ⊤
IsNoRefusal (Some Memory) = ⊤
