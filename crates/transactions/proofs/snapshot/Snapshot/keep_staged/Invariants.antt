use Rattle.std.proofs.Common.{◌≡◌, ◌-◌, List, take, length, true, false}
use Rattle.std.specs.Prelude.{IsSome}
use Rattle.formats.specs.declared.params.Params.{Params}
use Rattle.store_engine.specs.Engine.{Holds, params_of}
use Rattle.transactions.specs.Snapshots.{Covers, IsSnapshot, KeepsOn}
use Rattle.transactions.specs.Staged.{OnlyReads}
use Rattle.transactions.proofs.snapshot.Snapshot.keep_staged.Given as goal

abbrev pub invariant-loop-op : goal.invariant-loop-op
invariant-loop-op g l = record {
  reads : OnlyReads g.O.Oper.meaning (g.M.Machine.disk l.fn.machine) (g.M.Machine.disk l.machine) l.fn.engine l.engine (l.engine.broken ≡ true);
  whole : IsSome l.self.kept → l.engine.broken ≡ false;
  on : KeepsOn l.fn.self l.self;
  stands : Covers g.O.Oper.meaning (params_of l.fn.engine) l.fn.self l.transaction.ops.items → l.self ≡ l.fn.self;
  covers : Covers g.O.Oper.meaning (params_of l.fn.engine) l.self (take l.next l.transaction.ops.items);
  snapshot : (p : Params) (base commands : List _) → Holds g.O.Oper.meaning p (g.M.Machine.disk l.fn.machine) l.fn.engine commands → IsSnapshot g.O.Oper.meaning p l.fn.self base commands → IsSnapshot g.O.Oper.meaning p l.self base commands;
}

abbrev pub decreases-loop-op : goal.decreases-loop-op
decreases-loop-op g l = length l.transaction.ops.items - l.next
