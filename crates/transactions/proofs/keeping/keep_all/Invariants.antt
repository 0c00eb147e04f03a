use Rattle.std.proofs.Common.{◌≡◌, List, take, false}
use Rattle.formats.specs.declared.params.Params.{Params}
use Rattle.store_engine.specs.Engine.{Holds, params_of}
use Rattle.transactions.specs.Keeping.{AddsValues, KeepsOld}
use Rattle.transactions.specs.Snapshots.{AreKept}
use Rattle.transactions.specs.Staged.{OnlyReads}
use Rattle.transactions.proofs.keeping.keep_all.Given as goal

abbrev pub invariant-loop-object : goal.invariant-loop-object
invariant-loop-object g l = record {
  unbroken : l.engine.broken ≡ false;
  reads : OnlyReads g.O.Oper.meaning (g.M.Machine.disk l.fn.machine) (g.M.Machine.disk l.machine) l.fn.engine l.engine ⊥;
  kept : AreKept (params_of l.fn.engine).objects l.kept (take l.object-index l.objects);
  stands : AreKept (params_of l.fn.engine).objects l.fn.kept l.objects → l.kept ≡ l.fn.kept;
  same : KeepsOld l.fn.kept l.kept;
  values : (p : Params) (commands : List _) → Holds g.O.Oper.meaning p (g.M.Machine.disk l.fn.machine) l.fn.engine commands → AddsValues g.O.Oper.meaning p commands l.fn.kept l.kept;
}
