use Rattle.std.proofs.Common.{◌≡◌, List, false}
use Rattle.std.specs.Prelude.{None}
use Rattle.formats.specs.declared.params.Params.{Params}
use Rattle.store_engine.specs.Engine.{Holds}
use Rattle.store_engine.specs.Lists.{AreCalls}
use Rattle.store_engine.specs.Store.{meaning_in, state_of}
use Rattle.transactions.specs.Accepted.{AreAccepted}
use Rattle.transactions.proofs.Making.{IsUnderWay}
use Rattle.transactions.proofs.running.run_all.Given as goal

abbrev pub invariant-loop-op : goal.invariant-loop-op
invariant-loop-op g l = record {
  unbroken : l.engine.broken ≡ false;
  calls : AreCalls g.O.Oper.meaning (g.M.Machine.disk l.fn.machine) (g.M.Machine.disk l.machine) l.fn.engine l.engine None;
  made : (p : Params) (commands : List _) → (holds : Holds g.O.Oper.meaning p (g.M.Machine.disk l.fn.machine) l.fn.engine commands) → AreAccepted (meaning_in g.O.Oper.meaning p) (state_of g.O.Oper.meaning p commands) l.fn.ops.items
      → IsUnderWay g.O.Oper.meaning p (g.M.Machine.disk l.fn.machine) (g.M.Machine.disk l.machine) l.fn.engine l.engine commands holds l.fn.ops.items l.ops.items;
}

abbrev pub decreases-loop-op : goal.decreases-loop-op
decreases-loop-op g l = l.ops.len
