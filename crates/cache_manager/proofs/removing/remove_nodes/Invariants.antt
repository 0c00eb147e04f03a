use Rattle.std.proofs.Common.{◌≡◌, false, drop}
use Rattle.running_store.specs.StoreView.{StoreView}
use Rattle.running_store.specs.Taking.{Ending}
use Rattle.cache_manager.specs.RoundNodes.{AreRemoved, NameMinimal}
use Rattle.cache_manager.proofs.removing.remove_nodes.Given as goal

abbrev pub invariant-loop-n : goal.invariant-loop-n
invariant-loop-n g l =
    let meaning = g.O.Oper.meaning in
    let disk = g.M.Machine.disk in
    record {
      unbroken : l.store.broken ≡ false;
      minimal : NameMinimal l.store.parts.volatile.entries (drop l.n-index l.fn.names);
      rest : (new : g.row.M.Denot) (after : StoreView) (ending : Ending) → AreRemoved meaning (disk l.machine) (disk new) l.store after (drop l.n-index l.fn.names) ending
          → AreRemoved meaning (disk l.fn.machine) (disk new) l.fn.store after l.fn.names ending;
    }
