use Rattle.std.proofs.Common.{◌≡◌, ◌++◌, drop}
use Rattle.running_store.specs.Calls.Laws.{IsLogging}
use Rattle.cache_manager.specs.InstallCourses.{identities}
use Rattle.cache_manager.specs.LogsDirty.{identity_entries}
use Rattle.running_store.specs.Kept.{IsLonger, StopsAt}
use Rattle.formats.specs.Limits.{log_limit}
use Rattle.running_store.specs.Taking.Rests.{IsRest}
use Rattle.running_store.specs.StoreView.{next_of}
use Rattle.running_store.specs.Taking.Ending.{Done}
use Rattle.cache_manager.proofs.identities.log_all.Given as goal

abbrev pub invariant-loop-x : goal.invariant-loop-x
invariant-loop-x g l =
    let meaning = g.O.Oper.meaning in
    let disk = g.M.Machine.disk in
    record {
      call : IsLogging meaning (disk l.fn.machine) (disk l.machine) l.fn.store l.store (StopsAt log_limit) Done;
      logged : IsLonger l.x-index l.fn.store.parts l.store.parts;
      entries : l.store.parts.volatile.entries ++ identity_entries (next_of l.store) (drop l.x-index l.fn.xs) ≡ l.fn.store.parts.volatile.entries ++ identity_entries (next_of l.fn.store) l.fn.xs;
      rest : IsRest disk meaning l.fn.machine l.fn.store.parts (λ m w used. identities m l.fn.xs w used) l.machine l.store.parts (λ m w used. identities m (drop l.x-index l.fn.xs) w used);
    }
