use Rattle.std.proofs.Common.{◌-◌, None, List, option_map}
use Rattle.formats.specs.declared.params.Params.{Params}
use Rattle.page_map.specs.Steps.{last_below}
use Rattle.store_calls.specs.Making.{Reads}
use Rattle.range_calls.specs.Store.{Command, state_of}
use Rattle.map_client.specs.RangingWay.{IsOnWay}
use Rattle.map_client.proofs.ranging_leaf.leaf_below.Given as goal

abbrev pub invariant-loop-step : goal.invariant-loop-step
invariant-loop-step g l = record {
  reads : Reads g.S.Store.view (g.M.Machine.disk l.fn.machine) (g.M.Machine.disk l.machine) l.fn.store l.store None;
  way : (p : Params) (commands : List Command) → g.S.Store.view.holds p (g.M.Machine.disk l.fn.machine) l.fn.store commands
      → IsOnWay l.map.lo l.map.hi (state_of p commands) (last_below (option_map (λ end. end.now) l.end)) (l.levels - l.step) l.at.stop.object (record { from = l.at.from.items; to = option_map (λ v. v.items) l.at.stop.to });
}
