use Rattle.std.proofs.Common.{◌≡◌, ◌-◌, ◌++◌, suc, filter, List}
use Rattle.formats.specs.declared.params.Params.{Params}
use Rattle.call_plans.specs.Free.{objects_from}
use Rattle.page_map.specs.Sweeps as sweeps
use Rattle.page_map.specs.Sweeps.{is_left}
use Rattle.range_calls.specs.Store.{Command, state_of}
use Rattle.map_client.proofs.upkeep.left_over.Given as goal

-- those that were found, and those that are still to be found
abbrev pub invariant-loop-above : goal.invariant-loop-above
invariant-loop-above g l = (p : Params) (commands : List Command) → g.S.Store.view.holds p (g.M.Machine.disk l.machine) l.store commands
    → l.left.items ++ filter (λ x. is_left l.map l.check.met.objects x (state_of p commands x)) (objects_from (suc l.above) (l.map.hi - l.above)) ≡ sweeps.left_over l.map l.check.met.objects (state_of p commands)
