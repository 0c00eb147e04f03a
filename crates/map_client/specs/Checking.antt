-- What a check of a range comes to.
use Rattle.std.specs.Prelude.{◌≡◌, ℕ, Result, Ok, Err, length, nat_lt, if◌then◌else◌}
use Rattle.oper_core.specs.State.{State}
use Rattle.oper_core.specs.declared.bounds.Bounds.{Bounds}
use Rattle.page_map.specs.Checks.{Checking, Met, before, check, check_from}
use Rattle.page_map.specs.Map.{Range}
use Rattle.page_map.specs.declared.awaited.Awaited.{Awaited}
use Rattle.range_calls.specs.declared.call_err.CallErr.TheVariants.{Refused}
use Rattle.map_client.specs.Answers.{MapErr, told}
use Rattle.map_client.specs.declared.call_refusal.CallRefusal.TheVariants.{NoObject}
use Rattle.map_client.specs.declared.checked.Checked.{Checked}

-- how many pages were met, how many pairs they have, and how many cells past their spans
abbrev pub counted : Met → Checked
counted met = record { pages = length met.objects; keys = met.keys; past = met.past }

abbrev pub counts : Result Met ℕ → Result Checked ℕ
counts (Ok met) = Ok (counted met)
counts (Err bad) = Err bad

-- what a check answers in a store of these bounds
abbrev pub check_told : Bounds → Range → State → Result Checked MapErr
check_told b range s = if nat_lt range.hi b.objects then told (counts (check range s)) else Err (Refused NoObject)

-- the page that comes next is met, and the check goes on; or it is bad
abbrev pub GoesOn : State → Awaited → Checking → Checking → Type 0
GoesOn s x c next = check_from s (before x c) ≡ check_from s next

abbrev pub IsBad : State → Checking → MapErr → Type 0
IsBad s c e = told (check_from s c) ≡ Err e
