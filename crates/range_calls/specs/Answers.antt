-- What the calls on a range of objects answer.
use Rattle.std.specs.Prelude.{ℕ, nat_le, Option, None, Some, Result, Ok, Err, List, [], ◌∷◌, if◌then◌else◌, option_map}
use Rattle.oper_core.specs.declared.refusal.Refusal.TheVariants.{TooLarge}
use Rattle.execution.specs.declared.exec_err.ExecErr.{ExecErr}
use Rattle.execution.specs.declared.exec_err.ExecErr.TheVariants as exec
use Rattle.call_plans.specs.Plan.{Plan}
use Rattle.range_calls.specs.Store.{Command}
use Rattle.range_calls.specs.declared.call_err.CallErr.{CallErr}
use Rattle.range_calls.specs.declared.call_err.CallErr.TheVariants.{Refused, Exec, Memory}

module _ {R : Type 0} where
  -- what a plan answers, as a call answers it
  abbrev pub told : {T : Type 0} → Result T R → Result T (CallErr R)
  told (Ok value) = Ok value
  told (Err refusal) = Err (Refused refusal)

  -- the store's error that a call ended with, or none: the range's own refusals are none
  abbrev pub cause_of : CallErr R → Option ExecErr
  cause_of (Refused refusal) = None
  cause_of (Exec cause) = Some cause
  cause_of Memory = Some exec.Memory

  abbrev pub cause_in : {T : Type 0} → Result T (CallErr R) → Option ExecErr
  cause_in (Ok value) = None
  cause_in (Err error) = cause_of error

-- Of the commands of a plan a call makes all, or none where a value may hold fewer than 1,024 bytes.
abbrev pub made_of : ℕ → List Command → List Command
made_of cap commands = if nat_le 1024 cap then commands else []

module _ {O R : Type 0} where
  -- Then the first of them is refused, if there is one; else the plan says why the call is refused, if it is.
  abbrev pub refused_of : ℕ → List O → Option (CallErr R) → Option (CallErr R)
  refused_of cap [] planned = planned
  refused_of cap (op ∷ ops) planned = if nat_le 1024 cap then planned else Some (Exec (exec.Refused TooLarge))

  abbrev pub refused_in : ℕ → Plan O R → Option (CallErr R)
  refused_in cap plan = refused_of cap plan.commands (option_map Refused plan.refusal)
