use Rattle.std.proofs.Common.{◌≡◌, ◌≤◌, All, List, length, map, take, false}
use Rattle.formats.specs.declared.params.Params.{Params}
use Rattle.store_engine.specs.Engine.{Holds, params_of}
use Rattle.store_engine.specs.Store.{state_of}
use Rattle.transactions.specs.Staged.{OnlyReads, overlaid}
use Rattle.transactions.proofs.seeing.values_of.Given as goal

abbrev pub invariant-loop-object : goal.invariant-loop-object
invariant-loop-object g l = record {
  unbroken : l.engine.broken ≡ false;
  reads : OnlyReads g.O.Oper.meaning (g.M.Machine.disk l.fn.machine) (g.M.Machine.disk l.machine) l.fn.engine l.engine ⊥;
  count : length l.values ≡ l.object-index;
  short : All (λ v. length v ≤ (params_of l.fn.engine).cap) l.values;
  values : (p : Params) (commands : List _) → Holds g.O.Oper.meaning p (g.M.Machine.disk l.fn.machine) l.fn.engine commands → l.values ≡ map (overlaid l.made (state_of g.O.Oper.meaning p commands)) (take l.object-index l.objects);
}
