use Rattle.std.proofs.Common.{◌-◌, None}
use Rattle.store_calls.specs.Making.{Calls}
use Rattle.range_calls.proofs.RoundLemmas.{LeadsOn}
use Rattle.range_calls.proofs.taking.take_rounds.Given as goal

abbrev pub invariant-loop-round : goal.invariant-loop-round
invariant-loop-round g l = record {
  calls : Calls g.S.Store.view (g.M.Machine.disk l.fn.machine) (g.M.Machine.disk l.machine) l.fn.store l.store None;
  whole : LeadsOn g.S.Store.view g.M.Machine.disk (g.C.Rounds.next l.call) (Unit {0}) l.fn.machine l.machine l.fn.store l.store l.most (l.most - l._round);
}
