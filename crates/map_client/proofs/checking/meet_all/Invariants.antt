use Rattle.std.proofs.Common.{◌≡◌, ◌≤◌, ◌-◌, suc, None, List, length}
use Rattle.formats.specs.declared.params.Params.{Params}
use Rattle.page_map.specs.Checks.{check_from}
use Rattle.store_calls.specs.Making.{Reads}
use Rattle.range_calls.specs.Store.{Command, state_of}
use Rattle.map_client.proofs.checking.meet_all.Given as goal

abbrev pub invariant-loop-page : goal.invariant-loop-page
invariant-loop-page g l = record {
  reads : Reads g.S.Store.view (g.M.Machine.disk l.fn.machine) (g.M.Machine.disk l.machine) l.fn.store l.store None;
  range : l.check.range ≡ l.map;
  same : (p : Params) (commands : List Command) → g.S.Store.view.holds p (g.M.Machine.disk l.fn.machine) l.fn.store commands
      → check_from (state_of p commands) l.fn.check ≡ check_from (state_of p commands) l.check;
}

abbrev pub decreases-loop-page : goal.decreases-loop-page
decreases-loop-page g l = suc (l.map.hi - l.map.lo) - length l.check.met.objects
