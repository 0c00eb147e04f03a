use Rattle.std.proofs.Common.{◌≡◌, ◌+◌, ◌-◌, ◌≤◌, length}
use Rattle.formats.specs.declared.params.Params.{Params}
use Rattle.explain_core.specs.World.{World}
use Rattle.running_store.specs.Calls.{IsCall, Never}
use Rattle.running_store.specs.Parts.{Shows, meaning_in}
use Rattle.running_store.specs.Taking.Rests.{IsRest}
use Rattle.running_store.specs.StoreView.{log_length, next_of}
use Rattle.running_store.specs.Taking.Ending.{Done}
use Rattle.cache_manager.specs.InstallCourses.{removals, workless_nodes}
use Rattle.cache_manager.specs.LogsDirty.{LogsDirty}
use Rattle.cache_manager.proofs.workless.finish_all_workless.Given as goal

abbrev pub invariant-loop-count : goal.invariant-loop-count
invariant-loop-count g l =
    let meaning = g.O.Oper.meaning in
    let disk = g.M.Machine.disk in
    let before = l.fn.store in
    let here = l.store in
    let left = l.fn.most - l.count in
    record {
      call : IsCall meaning (disk l.fn.machine) (disk l.machine) before here 0 Never Done;
      within : l.count ≤ l.fn.most;
      next : next_of here ≡ next_of before;
      fewer : length here.parts.volatile.entries + l.count ≤ length before.parts.volatile.entries;
      logs : LogsDirty before.parts here.parts;
      rest : IsRest disk meaning l.fn.machine before.parts (λ m w used. workless_nodes m l.fn.most w used) l.machine here.parts (λ m w used. workless_nodes m left w used);
      removed : (p : Params) (w : World g.row.O.Denot) → Shows (meaning_in meaning p) p (disk l.fn.machine) before.parts w → (v : World g.row.O.Denot) × Shows (meaning_in meaning p) p (disk l.machine) here.parts v
          × (removals (workless_nodes (meaning_in meaning p) l.fn.most w (log_length before)).steps ≡ l.count + removals (workless_nodes (meaning_in meaning p) left v (log_length here)).steps);
    }

abbrev pub decreases-loop-count : goal.decreases-loop-count
decreases-loop-count g l = l.fn.most - l.count
