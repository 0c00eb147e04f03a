use Rattle.std.proofs.Common.{◌-◌, List, None}
use Rattle.formats.specs.Objects.{bounds_of}
use Rattle.formats.specs.declared.params.Params.{Params}
use Rattle.store_calls.specs.Making.{Calls}
use Rattle.range_calls.specs.RunLaws.{IsUnderWay}
use Rattle.range_calls.specs.Store.{Command}
use Rattle.range_calls.proofs.turning.take_turns.Given as goal

abbrev pub invariant-loop-turn : goal.invariant-loop-turn
invariant-loop-turn g l = record {
  calls : Calls g.S.Store.view (g.M.Machine.disk l.fn.machine) (g.M.Machine.disk l.machine) l.fn.store l.store None;
  made : (p : Params) (commands : List Command) → g.S.Store.view.holds p (g.M.Machine.disk l.fn.machine) l.fn.store commands
      → IsUnderWay g.C.Turns.kind p (g.C.Turns.meaning (bounds_of p)) (g.met.C.Turns.means (bounds_of p)) (g.C.Turns.next l.call (bounds_of p)) l.most g.S.Store.view (g.M.Machine.disk l.fn.machine) (g.M.Machine.disk l.machine) l.fn.store l.store commands (l.most - l._turn);
}
