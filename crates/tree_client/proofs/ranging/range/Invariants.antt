use Rattle.std.proofs.Common.{◌≡◌, None, Ok, List}
use Rattle.formats.specs.declared.params.Params.{Params}
use Rattle.logical_btree.specs.Walk.{both_pairs, scan}
use Rattle.store_calls.specs.Making.{Reads}
use Rattle.tree_client.specs.Scanning.{AreWithin, span, stack_scan, weight}
use Rattle.range_calls.specs.Store.{Command, state_of}
use Rattle.tree_client.proofs.ranging.range.Given as goal

abbrev pub invariant-loop-part : goal.invariant-loop-part
invariant-loop-part g l = record {
  reads : Reads g.S.Store.view (g.M.Machine.disk l.fn.machine) (g.M.Machine.disk l.machine) l.fn.store l.store None;
  same : (p : Params) (commands : List Command) → g.S.Store.view.holds p (g.M.Machine.disk l.fn.machine) l.fn.store commands
      → scan l.tree.lo l.tree.hi (state_of p commands) (span l.from l.to) ≡ both_pairs (Ok l.scan.pairs.items) (stack_scan l.tree.lo l.tree.hi (state_of p commands) l.scan.parts.items);
  within : (p : Params) (commands : List Command) → g.S.Store.view.holds p (g.M.Machine.disk l.fn.machine) l.fn.store commands → AreWithin l.tree.lo l.tree.hi l.scan.parts.items;
}

abbrev pub decreases-loop-part : goal.decreases-loop-part
decreases-loop-part g l = weight l.scan.parts.items
