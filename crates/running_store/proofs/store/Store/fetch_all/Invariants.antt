use Rattle.std.proofs.Common.{◌≡◌, All, false, true}
use Rattle.stable_objects.specs.SlotsView.{lsn_in}
use Rattle.running_store.specs.Calls.Fetches.{IsFetch}
use Rattle.running_store.proofs.store.Store.fetch_all.Given as goal

abbrev pub invariant-loop-object : goal.invariant-loop-object
invariant-loop-object g l = record {
  read : IsFetch (g.M.Machine.disk l.fn.machine) (g.M.Machine.disk l.machine) l.fn.self l.self (false ≡ true);
  none : All (λ x. lsn_in l.fn.self.parts.volatile.objects.slots x ≡ 0) l.objects → l.machine ≡ l.fn.machine;
}
