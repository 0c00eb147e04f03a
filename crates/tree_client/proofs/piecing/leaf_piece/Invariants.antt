use Rattle.std.proofs.Common.{◌≡◌, ◌≤◌, ◌-◌, None, List, true}
use Rattle.formats.specs.declared.params.Params.{Params}
use Rattle.logical_btree.specs.Walk as walks
use Rattle.store_calls.specs.Making.{Reads}
use Rattle.range_calls.specs.Store.{Command, state_of}
use Rattle.tree_client.proofs.PieceLemmas.{GetsFrom, IsOnWay}
use Rattle.tree_client.proofs.piecing.leaf_piece.Given as goal

abbrev pub invariant-loop-step : goal.invariant-loop-step
invariant-loop-step g l = record {
  reads : Reads g.S.Store.view (g.M.Machine.disk l.fn.machine) (g.M.Machine.disk l.machine) l.fn.store l.store None;
  within : (p : Params) (commands : List Command) → g.S.Store.view.holds p (g.M.Machine.disk l.fn.machine) l.fn.store commands → l.object ≤ l.tree.hi;
  rising : walks.is_below l.key l.end ≡ true;
  way : (p : Params) (commands : List Command) → g.S.Store.view.holds p (g.M.Machine.disk l.fn.machine) l.fn.store commands
      → IsOnWay l.tree.lo l.tree.hi (state_of p commands) l.key l.end (walks.size l.tree.lo l.tree.hi - l._step) l.object;
  gets : (p : Params) (commands : List Command) → g.S.Store.view.holds p (g.M.Machine.disk l.fn.machine) l.fn.store commands
      → GetsFrom l.tree.lo l.tree.hi (state_of p commands) l.key (walks.size l.tree.lo l.tree.hi - l._step) l.object;
}
