-- The calls that change a tree.
use Rattle.std.specs.Prelude.{ℕ}
use Rattle.oper_core.specs.State.{State}
use Rattle.oper_core.specs.declared.bounds.Bounds.{Bounds}
use Rattle.logical_btree.specs.Plan.{TreePlan, insert_plan, delete_plan}
use Rattle.range_calls.specs.OnlyCalls.{MapCall, puts, deletes}

-- what each stands for
abbrev pub call_plan : Bounds → ℕ → ℕ → State → MapCall → TreePlan
call_plan b lo hi s (puts key value) = insert_plan b lo hi s key value
call_plan b lo hi s (deletes key) = delete_plan b lo hi s key
