use Rattle.std.proofs.Common.{◌≡◌, ◌+◌, ◌*◌, ◌-◌, ◌≤◌, ◌^◌, length}
use Rattle.formats.specs.declared.params.Params.{Params}
use Rattle.explain_core.specs.World.{World}
use Rattle.running_store.specs.Calls.Laws.{IsLogging}
use Rattle.cache_manager.specs.InstallCourses.{drain_course, removals}
use Rattle.cache_manager.specs.LogsDirty.{LogsDirty}
use Rattle.running_store.specs.Kept.{StopsAt}
use Rattle.formats.specs.Limits.{log_limit}
use Rattle.running_store.specs.Parts.{Shows, meaning_in}
use Rattle.running_store.specs.Taking.Rests.{IsRest}
use Rattle.running_store.specs.StoreView.{log_length, next_of}
use Rattle.running_store.specs.Taking.Ending.{Done}
use Rattle.cache_manager.proofs.draining.drain.Given as goal

abbrev pub invariant-loop-n : goal.invariant-loop-n
invariant-loop-n g l =
    let meaning = g.O.Oper.meaning in
    let disk = g.M.Machine.disk in
    let before = l.fn.store in
    let here = l.store in
    record {
      call : IsLogging meaning (disk l.fn.machine) (disk l.machine) before here (StopsAt log_limit) Done;
      bounded : l.count + next_of before + length here.parts.volatile.entries ≤ length before.parts.volatile.entries + next_of here;
      logs : LogsDirty before.parts here.parts;
      counted : l.count + (2 * (2 ^ 62 - next_of here) + length here.parts.volatile.entries) ≤ 2 ^ 63;
      rest : IsRest disk meaning l.fn.machine before.parts (λ m w used. drain_course m l.fn.copied w used) l.machine here.parts (λ m w used. drain_course m l.fn.copied w used);
      removed : (p : Params) (w : World g.row.O.Denot) → Shows (meaning_in meaning p) p (disk l.fn.machine) before.parts w → (v : World g.row.O.Denot) × Shows (meaning_in meaning p) p (disk l.machine) here.parts v
          × (removals (drain_course (meaning_in meaning p) l.fn.copied w (log_length before)).steps ≡ l.count + removals (drain_course (meaning_in meaning p) l.fn.copied v (log_length here)).steps);
    }

abbrev pub decreases-loop-n : goal.decreases-loop-n
decreases-loop-n g l = 2 * (2 ^ 62 - next_of l.store) + length l.store.parts.volatile.entries
