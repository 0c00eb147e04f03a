use Rattle.std.proofs.Common.{◌≡◌, ◌≤◌, All, length, map, take, false, true}
use Rattle.disk_model.specs.declared.machine.FileNo.TheVariants.{Objects}
use Rattle.stable_objects.specs.SlotsView.{lsn_in}
use Rattle.running_store.specs.Calls.Fetches.{IsFetch}
use Rattle.running_store.specs.Laid.{IsLaidOn, values_in}
use Rattle.running_store.specs.StoreView.{store_params}
use Rattle.running_store.proofs.store.Store.values_of.Given as goal

abbrev pub invariant-loop-object : goal.invariant-loop-object
invariant-loop-object g l =
    let old = g.M.Machine.disk l.fn.machine in
    let before = l.fn.self.parts.volatile.objects in record {
      read : IsFetch old (g.M.Machine.disk l.machine) l.fn.self l.self (false ≡ true);
      count : length l.values ≡ l.object-index;
      short : All (λ v. length v ≤ (store_params l.fn.self).cap) l.values;
      values : old.tells_files → IsLaidOn before (old.reads Objects) → l.values ≡ map (values_in before (old.reads Objects)) (take l.object-index l.objects);
      none : All (λ x. lsn_in before.slots x ≡ 0) l.objects → l.machine ≡ l.fn.machine;
    }
