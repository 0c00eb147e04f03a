use Rattle.std.proofs.Common.{◌≡◌, ◌≤◌, ◌-◌, None, List}
use Rattle.formats.specs.declared.params.Params.{Params}
use Rattle.page_map.specs.Walk as walks
use Rattle.store_calls.specs.Making.{Reads}
use Rattle.range_calls.specs.Store.{Command, state_of}
use Rattle.map_client.proofs.walking.walk.Given as goal

abbrev pub invariant-loop-step : goal.invariant-loop-step
invariant-loop-step g l = record {
  reads : Reads g.S.Store.view (g.M.Machine.disk l.fn.machine) (g.M.Machine.disk l.machine) l.fn.store l.store None;
  within : l.object ≤ l.map.hi;
  way : (p : Params) (commands : List Command) → g.S.Store.view.holds p (g.M.Machine.disk l.fn.machine) l.fn.store commands
      → walks.walk l.map.lo l.map.hi (state_of p commands) l.key ≡ walks.walk_from l.map.lo l.map.hi (state_of p commands) l.key (l.levels - l.step) l.object;
}
