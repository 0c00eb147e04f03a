-- Calls that find at each moment the command that comes next.
use Rattle.std.specs.Prelude.{Bool, true, false, Result, Ok, Err}
use Rattle.call_plans.specs.Plan.{Next, goes_on, ends, refuses, Plan, one_command, refused_by}
use Rattle.range_calls.specs.Store.{Command}
use Rattle.range_calls.specs.declared.call_err.CallErr.{CallErr}
use Rattle.range_calls.specs.declared.call_err.CallErr.TheVariants.{Refused}
use Rattle.range_calls.specs.declared.turn.Turn.{Turn}

module _ {O R : Type 0} where
  -- the next turn of a call whose commands are of this kind: the command, and whether it is the last
  abbrev pub turn_answer : (O → Command) → Next O R → Result Turn (CallErr R)
  turn_answer kind (goes_on op) = Ok (record { op = kind op; last = false })
  turn_answer kind (ends op) = Ok (record { op = kind op; last = true })
  turn_answer kind (refuses refusal) = Err (Refused refusal)

  -- the command that comes next, as a plan
  abbrev pub turn_plan : Next O R → Plan O R
  turn_plan (goes_on op) = one_command op
  turn_plan (ends op) = one_command op
  turn_plan (refuses refusal) = refused_by refusal

  -- it ends the call
  abbrev pub is_last : Next O R → Bool
  is_last (goes_on op) = false
  is_last (ends op) = true
  is_last (refuses refusal) = false
