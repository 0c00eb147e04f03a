use Rattle.std.proofs.Common.{◌≡◌, ◌≤◌, ◌<◌, ◌-◌, None, List, option_map}
use Rattle.formats.specs.declared.params.Params.{Params}
use Rattle.page_map.specs.Deletes.{tidy_from}
use Rattle.store_calls.specs.Making.{Reads}
use Rattle.range_calls.specs.Store.{Command, state_of}
use Rattle.map_client.proofs.tidying.page_above.Given as goal

abbrev pub invariant-loop-step : goal.invariant-loop-step
invariant-loop-step g l = record {
  reads : Reads g.S.Store.view (g.M.Machine.disk l.fn.machine) (g.M.Machine.disk l.machine) l.fn.store l.store None;
  left : l.step < l.levels;
  way : (p : Params) (commands : List Command) → g.S.Store.view.holds p (g.M.Machine.disk l.fn.machine) l.fn.store commands →
      (l.at.object ≤ l.way.map.now.hi) × (tidy_from l.way.map.now.lo l.way.map.now.hi (state_of p commands) l.way.key.now l.levels l.way.map.now.lo None
      ≡ tidy_from l.way.map.now.lo l.way.map.now.hi (state_of p commands) l.way.key.now (l.levels - l.step) l.at.object (option_map (λ v. v.items) l.at.to));
}
