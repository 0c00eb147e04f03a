-- The calls that change a hash file.
use Rattle.std.specs.Prelude.{ℕ}
use Rattle.oper_core.specs.State.{State}
use Rattle.oper_core.specs.declared.bounds.Bounds.{Bounds}
use Rattle.hash_file.specs.Plan.{HashPlan, put_plan, delete_plan}
use Rattle.range_calls.specs.OnlyCalls.{MapCall, puts, deletes}

-- what each stands for
abbrev pub call_plan : Bounds → ℕ → ℕ → State → MapCall → HashPlan
call_plan b lo hi s (puts key value) = put_plan b lo hi s key value
call_plan b lo hi s (deletes key) = delete_plan b lo hi s key
