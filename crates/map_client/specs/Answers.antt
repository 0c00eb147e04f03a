-- What the calls on a map answer.
use Rattle.std.specs.Prelude.{ℕ, Option, None, Some, Result, Ok, Err, List, nat_lt, if◌then◌else◌}
use Rattle.oper_core.specs.State.{State}
use Rattle.oper_core.specs.declared.bounds.Bounds.{Bounds}
use Rattle.execution.specs.declared.exec_err.ExecErr.{ExecErr}
use Rattle.page_map.specs.Walk.{get_answer}
use Rattle.page_map.specs.declared.refusal.MapRefusal.TheVariants.{BadMap}
use Rattle.range_calls.specs.Answers as answers
use Rattle.range_calls.specs.declared.call_err.CallErr.{CallErr}
use Rattle.range_calls.specs.declared.call_err.CallErr.TheVariants.{Refused}
use Rattle.map_client.specs.declared.call_refusal.CallRefusal.{CallRefusal}
use Rattle.map_client.specs.declared.call_refusal.CallRefusal.TheVariants.{NoObject, Map}

abbrev pub MapErr : Type 0
MapErr = CallErr CallRefusal

-- a bad object
abbrev pub bad_map : ℕ → MapErr
bad_map object = Refused (Map (BadMap object))

-- what a way comes to, as a call answers it
abbrev pub told : {T : Type 0} → Result T ℕ → Result T MapErr
told (Ok found) = Ok found
told (Err bad) = Err (bad_map bad)

-- what is read in an object, or the object as a bad one
abbrev pub or_bad : {T : Type 0} → ℕ → Option T → Result T MapErr
or_bad object None = Err (bad_map object)
or_bad object (Some found) = Ok found

-- what a get answers in a store of these bounds
abbrev pub get_told : Bounds → ℕ → ℕ → State → List ℕ → Result (Option (List ℕ)) MapErr
get_told b lo hi s key = if nat_lt hi b.objects then told (get_answer lo hi s key) else Err (Refused NoObject)

abbrev pub cause_of : MapErr → Option ExecErr
cause_of error = answers.cause_of error

abbrev pub cause_in : {T : Type 0} → Result T MapErr → Option ExecErr
cause_in answer = answers.cause_in answer
