use Rattle.std.proofs.Common.{◌≡◌, ◌≤◌, ◌-◌, None, List}
use Rattle.formats.specs.declared.params.Params.{Params}
use Rattle.logical_btree.specs.Walk as walks
use Rattle.tree_client.specs.Finding.{way_end}
use Rattle.store_calls.specs.Making.{Reads}
use Rattle.range_calls.specs.Store.{Command, state_of}
use Rattle.tree_client.proofs.walking.walk.Given as goal

abbrev pub invariant-loop-step : goal.invariant-loop-step
invariant-loop-step g l = record {
  reads : Reads g.S.Store.view (g.M.Machine.disk l.fn.machine) (g.M.Machine.disk l.machine) l.fn.store l.store None;
  within : (p : Params) (commands : List Command) → g.S.Store.view.holds p (g.M.Machine.disk l.fn.machine) l.fn.store commands → l.object ≤ l.tree.hi;
  way : (p : Params) (commands : List Command) → g.S.Store.view.holds p (g.M.Machine.disk l.fn.machine) l.fn.store commands
      → way_end None None (walks.walk l.tree.lo l.tree.hi (state_of p commands) l.key)
      ≡ way_end l.full l.parent (walks.walk_from l.tree.lo l.tree.hi (state_of p commands) l.key (walks.size l.tree.lo l.tree.hi - l._step) l.object);
}
