use Rattle.std.proofs.Common.{◌≡◌, ◌+◌, ◌-◌, ◌^◌, ℕ, []}
use Rattle.formats.specs.declared.params.Params.{Params}
use Rattle.explain_core.specs.World.{World}
use Rattle.running_store.specs.Calls.Laws.{IsLogging}
use Rattle.cache_manager.specs.InstallCourses.{flushed_in, install_course}
use Rattle.cache_manager.specs.LogsDirty.{LogsDirty}
use Rattle.running_store.specs.Kept.{IsLonger, StopsAt}
use Rattle.formats.specs.Limits.{log_limit}
use Rattle.running_store.specs.Parts.{Shows, meaning_in}
use Rattle.running_store.specs.Taking.Rests.{IsRest}
use Rattle.running_store.specs.StoreView.{log_length, next_of}
use Rattle.running_store.specs.Taking.Ending.{Done}
use Rattle.cache_manager.proofs.rounds.install_one.Given as goal

abbrev pub invariant-loop-name : goal.invariant-loop-name
invariant-loop-name g l =
    let meaning = g.O.Oper.meaning in
    let disk = g.M.Machine.disk in
    let before = l.fn.store in
    let here = l.store in
    record {
      call : IsLogging meaning (disk l.fn.machine) (disk l.machine) before here (StopsAt log_limit) Done;
      logged : (n : ℕ) × IsLonger n before.parts here.parts;
      logs : LogsDirty before.parts here.parts;
      none : before.parts.volatile.entries ≡ [] → here.parts.volatile.entries ≡ [];
      rest : IsRest disk meaning l.fn.machine before.parts (λ m w used. install_course m l.fn.copied w used) l.machine here.parts (λ m w used. install_course m l.fn.copied w used);
      flushed : (p : Params) (w : World g.row.O.Denot) → Shows (meaning_in meaning p) p (disk l.fn.machine) before.parts w → (v : World g.row.O.Denot) × Shows (meaning_in meaning p) p (disk l.machine) here.parts v
          × (flushed_in (install_course (meaning_in meaning p) l.fn.copied w (log_length before)).steps ≡ flushed_in (install_course (meaning_in meaning p) l.fn.copied v (log_length here)).steps);
    }

abbrev pub decreases-loop-name : goal.decreases-loop-name
decreases-loop-name g l = 2 ^ 62 + 1 - next_of l.store
