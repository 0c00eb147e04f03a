use Rattle.std.proofs.Common.{◌≡◌, ◌∙◌, sym, subst, ap, refl, ℕ, List, [], arith, inl, inr, length, ◌+◌, ◌-◌, ◌<◌, ◌⊎◌}
use Rattle.std.specs.Prelude.{take}
use Rattle.std.specs.List.Sorted.{IsStrictlyIncreasing}
use Rattle.std.proofs.lemmas.Bool.{both_ways}
use Rattle.disk_model.specs.Disk.{Disk}
use Rattle.oper_core.specs.Meaning.{Meaning, IsSmall}
use Rattle.oper_core.specs.State.{is_among}
use Rattle.oper_core.specs.declared.bounds.Bounds.{Bounds}
use Rattle.formats.specs.Limits.{log_limit}
use Rattle.formats.specs.declared.params.Params.{Params}
use Rattle.log_records.specs.RecordLog.{RecordLogView}
use Rattle.install_order.specs.declared.entry.Entry.{Entry}
use Rattle.write_graph.specs.Graph.{IsLeast, NamesMinimal, lsns}
use Rattle.explain_core.specs.World.{World, run}
use Rattle.running_store.specs.Calls.Laws.{IsLogging, call_short, logging_none, logging_twice, unbroken_after}
use Rattle.running_store.specs.Calls.{IsCall, Never, call_none}
use Rattle.running_store.specs.Courses.{Course, cached_length, course}
use Rattle.running_store.specs.Courses.Stop.{Through}
use Rattle.running_store.specs.Kept.Keeping.{longer_here, longer_twice}
use Rattle.running_store.specs.Kept.{StopsAt}
use Rattle.running_store.specs.Parts.{Shows, meaning_in}
use Rattle.running_store.specs.Taking.Rests.{rest_next, rest_same}
use Rattle.running_store.specs.Running.{KeepsSound}
use Rattle.running_store.specs.StoreView.{log_length, logged_since}
use Rattle.running_store.specs.Taking.{Ending, Takes}
use Rattle.running_store.specs.Taking.Ending.{Done, Failed, Short}
use Rattle.running_store.specs.Taking.Laws.{both, takes_first, takes_none, takes_nothing, takes_same}
use Rattle.cache_manager.specs.Beside.{HasCopied, IsFresh}
use Rattle.cache_manager.specs.Endings.{err_cuts, failed_ends, same_ends, short_ends}
use Rattle.cache_manager.specs.InstallCourses.{but_longest, finish_steps, flushed_in, identities, install_course}
use Rattle.cache_manager.proofs.ToLog.DirtyLogs.{logs_none, logs_round, logs_twice}
use Rattle.cache_manager.proofs.NextNode.Work.{work_dirty}
use Rattle.cache_manager.proofs.OneInstall.Taken.{IsNext, finish_flush, finishes, logs, logs_flush, next_here, none_left}
use Rattle.cache_manager.proofs.OneInstall.Telling.{tells_none, told_done, told_none}
use Rattle.cache_manager.proofs.rounds.install_one.Given.{Over}
use Rattle.cache_manager.proofs.rounds.install_one.Goals.{After-finish_next, After-graph-in-Some-2, After-log_others, After-next}
use Rattle.cache_manager.proofs.rounds.install_one.Goals as goal

pub loop-name-init : goal.loop-name-init
loop-name-init g c =
    let d = g.M.Machine.disk c.args.machine.now in
    let it = c.args.store.now in
    record {
      call = logging_none g.O.Oper.meaning d d it it (StopsAt log_limit) Done refl (call_none g.O.Oper.meaning d it Never (g.met.M.Machine.lawful c.args.machine.now) c.requires.unbroken);
      logged = (0, longer_here it.parts);
      logs = logs_none it.parts;
      none = λ e. e;
      rest = λ new after ending takes. takes;
      flushed = λ p w shows. (w, shows, refl);
    }

pub work_of-requires : goal.work_of-requires
work_of-requires g c =
    let least = subst (λ (es : List Entry). IsLeast (NamesMinimal es) c.in-Some.name) (c.graph-in-loop-name.ensures ∙ sym c.graph-in-Some.ensures) c.in-Some.ensures.some in
    (least.0.0, least.0.1)

pub may_finish-requires : goal.may_finish-requires
may_finish-requires g c =
    let least = subst (λ (es : List Entry). IsLeast (NamesMinimal es) c.in-Some.name) (c.graph-in-loop-name.ensures ∙ sym c.graph-in-Some-2.ensures) c.in-Some.ensures.some in
    (least.0.0, least.0.1)

-- the next node, before it is finished, or a round is logged
next : (g : Over) (c : After-graph-in-Some-2 g) → IsNext c.loop-name.store.parts.volatile c.in-Some.name c.as_slice-due.result.now
next g c =
    next_here c.loop-name.store.parts.volatile c.in-Some.name c.objects.result.now c.graph-in-loop-name.result.now.entries c.graph-in-Some.result.now.entries c.as_slice-due.result.now c.in_ok-work.work.items
    c.objects.ensures c.graph-in-loop-name.ensures c.graph-in-Some.ensures c.as_slice-due.ensures.value c.in-Some.ensures.some c.in_ok-work.ensures

pub finish_next-requires-clause-unbroken : goal.finish_next-requires-clause-unbroken
finish_next-requires-clause-unbroken g c = unbroken_after g.O.Oper.meaning _ _ c.args.store.now c.loop-name.store (logged_since c.args.store.now c.loop-name.store) (StopsAt log_limit) c.loop-name.invariant.call

pub finish_next-requires-clause-least : goal.finish_next-requires-clause-least
finish_next-requires-clause-least g c = (next g (goal.at.finish_next-requires-clause-least g c).After-graph-in-Some-2).least

pub finish_next-requires-clause-is_work : goal.finish_next-requires-clause-is_work
finish_next-requires-clause-is_work g c = (next g (goal.at.finish_next-requires-clause-is_work g c).After-graph-in-Some-2).work

pub finish_next-requires-clause-few : goal.finish_next-requires-clause-few
finish_next-requires-clause-few g c = c.may_finish.ensures.few c.if-may_finish.true

pub log_others-requires-clause-unbroken : goal.log_others-requires-clause-unbroken
log_others-requires-clause-unbroken g c = unbroken_after g.O.Oper.meaning _ _ c.args.store.now c.loop-name.store (logged_since c.args.store.now c.loop-name.store) (StopsAt log_limit) c.loop-name.invariant.call

pub log_others-requires-clause-dirty : goal.log_others-requires-clause-dirty
log_others-requires-clause-dirty g c =
    let it = next g (goal.at.log_others-requires-clause-dirty g c).After-graph-in-Some-2 in
    work_dirty c.loop-name.store.parts.volatile c.in-Some.name it.least c.as_slice-due.result.now it.work

pub log_others-requires-clause-rising : goal.log_others-requires-clause-rising
log_others-requires-clause-rising g c =
    let it = next g (goal.at.log_others-requires-clause-rising g c).After-graph-in-Some-2 in
    (it.work it.least.0.0 it.least.0.1).rising

pub log_others-requires-clause-some : goal.log_others-requires-clause-some
log_others-requires-clause-some g c = elim (c.may_finish.ensures.must c.if-may_finish.false) [
  | inl many ↦ inl many
  | inr has ↦ inr (has.0, has.1, has.2)
]

-- a round is logged
module _ (g : Over) (c : After-log_others g) (it : IsNext c.loop-name.store.parts.volatile c.in-Some.name c.as_slice-due.result.now) where
  abbrev round : Meaning g.row.O.Denot → World g.row.O.Denot → ℕ → Course g.row.O.Denot
  round m v used = identities m (but_longest c.args.copied (cached_length m v) c.as_slice-due.result.now) v used

  abbrev rest : Meaning g.row.O.Denot → World g.row.O.Denot → ℕ → Course g.row.O.Denot
  rest m v used = install_course m c.args.copied v used

  keep : (b : Bounds) → IsSmall b → KeepsSound (g.O.Oper.meaning b)
  keep b small v taken sound may = c.every_run_keeps.ensures.from_sound b v taken small sound may

  more : (1 < length c.as_slice-due.result.now) ⊎ HasCopied c.loop-name.store.parts.volatile.entries c.in-Some.name c.args.copied c.as_slice-due.result.now
  more = subst (λ (es : List Entry). (1 < length c.as_slice-due.result.now) ⊎ HasCopied es c.in-Some.name c.args.copied c.as_slice-due.result.now) c.graph-in-Some-2.ensures (c.may_finish.ensures.must c.if-may_finish.false)

  module _ (p : Params) (v : World g.row.O.Denot) (shows : Shows (meaning_in g.O.Oper.meaning p) p (g.M.Machine.disk c.loop-name.machine) c.loop-name.store.parts v) where
    -- the rest of the install begins with it
    goes : both g.O.Oper.meaning round rest (meaning_in g.O.Oper.meaning p) v (log_length c.loop-name.store) ≡ rest (meaning_in g.O.Oper.meaning p) v (log_length c.loop-name.store)
    goes = sym (logs g.O.Oper.meaning g.met.O.Oper.lawful keep c.last_blind_write_is_alone.ensures c.args.copied (g.M.Machine.disk c.loop-name.machine) c.loop-name.store.parts c.in-Some.name c.as_slice-due.result.now it p v shows more)

    -- and flushes nothing in it
    goes_on : let m = meaning_in g.O.Oper.meaning p in let one = round m v (log_length c.loop-name.store) in one.stop ≡ Through → flushed_in (rest m v (log_length c.loop-name.store)).steps ≡ flushed_in (rest m (run m v one.steps) one.used).steps
    goes_on = logs_flush g.O.Oper.meaning g.met.O.Oper.lawful keep c.last_blind_write_is_alone.ensures c.args.copied (g.M.Machine.disk c.loop-name.machine) c.loop-name.store.parts c.in-Some.name c.as_slice-due.result.now it p v shows more

pub loop-name-preserved : goal.loop-name-preserved
loop-name-preserved g c =
    let at = goal.at.loop-name-preserved g c in
    let it = next g at.After-graph-in-Some-2 in
    let meaning = g.O.Oper.meaning in
    let disk = g.M.Machine.disk in
    let before = c.args.store.now in
    let here = c.loop-name.store in
    let so_far = c.loop-name.invariant in
    let now = c.loop-name.machine in
    let later = c.log_others.new.machine in
    let after = c.log_others.new.store in
    let done = c.in_ok-log_others.ensures in
    let one = round g at.After-log_others it in
    let install = rest g at.After-log_others it in
    let used = (c.params-params.ensures.in_use (unbroken_after meaning _ _ before here (logged_since before here) (StopsAt log_limit) so_far.call)).store in
    record {
      call = logging_twice meaning (disk c.args.machine.now) (disk now) (disk later) before here after (StopsAt log_limit) Done so_far.call done.call;
      logged = (so_far.logged.0 + done.logged.0, longer_twice so_far.logged.0 done.logged.0 before.parts here.parts after.parts so_far.logged.1 done.logged.2);
      logs = logs_twice before.parts here.parts after.parts so_far.logs
          (logs_round c.last_blind_write_is_alone.ensures here.parts after.parts c.in-Some.name c.args.copied it.least.0.0 it.least.0.1 c.as_slice-due.result.now (it.work it.least.0.0 it.least.0.1) (more g at.After-log_others it) used.above
          (λ x is. sym (done.logged.2.dirty x) ∙ is) done.objects);
      none = λ e. absurd (both_ways _ (ap (λ (es : List Entry). is_among c.in-Some.name (lsns es)) (so_far.none e)) it.least.0.1.held);
      rest = rest_next disk meaning c.args.machine.now now before.parts here.parts install one install later after.parts done.call.quiet done.takes
          (rest_same disk meaning c.args.machine.now now before.parts here.parts install install (both meaning one install) (goes g at.After-log_others it) so_far.rest);
      flushed = λ p w shows.
          let m = meaning_in meaning p in
          let u = so_far.flushed p w shows in
          let steps = (one m u.0 (log_length here)).steps in
          let taken = done.takes.follows p u.0 u.1 in
          (run m u.0 steps, taken.1.shows, u.2 ∙ goes_on g at.After-log_others it p u.0 u.1 taken.0 ∙ ap (λ (k : ℕ). flushed_in (install m (run m u.0 steps) k).steps) (sym taken.1.used));
    }

-- the round is cut short
pub returns-in_err-log_others-clause-call : goal.returns-in_err-log_others-clause-call
returns-in_err-log_others-clause-call g c =
    let meaning = g.O.Oper.meaning in
    let old = g.M.Machine.disk c.args.machine.now in
    let later = g.M.Machine.disk c.log_others.new.machine in
    let before = c.args.store.now in
    let after = c.log_others.new.store in
    subst (λ (k : Ending). IsLogging meaning old later before after (StopsAt log_limit) k) (same_ends c.from_residual-in_err-log_others.result c.in_err-log_others.field-0.0 c.from_residual-in_err-log_others.ensures.1)
    (logging_twice meaning old (g.M.Machine.disk c.loop-name.machine) later before c.loop-name.store after (StopsAt log_limit) _ c.loop-name.invariant.call c.in_err-log_others.ensures.call)

pub returns-in_err-log_others-clause-takes : goal.returns-in_err-log_others-clause-takes
returns-in_err-log_others-clause-takes g c =
    let at = goal.at.returns-in_err-log_others-clause-takes g c in
    let it = next g at.After-graph-in-Some-2 in
    let meaning = g.O.Oper.meaning in
    let now = g.M.Machine.disk c.loop-name.machine in
    let later = g.M.Machine.disk c.log_others.new.machine in
    let here = c.loop-name.store.parts in
    let after = c.log_others.new.store.parts in
    let e = c.in_err-log_others.field-0.0 in
    let one = round g at.After-log_others it in
    let install = rest g at.After-log_others it in
    subst (λ (k : Ending). Takes meaning (g.M.Machine.disk c.args.machine.now) later c.args.store.now.parts after install k) (same_ends c.from_residual-in_err-log_others.result e c.from_residual-in_err-log_others.ensures.1)
    (c.loop-name.invariant.rest c.log_others.new.machine after _
    (takes_same meaning now later here after (both meaning one install) install _ (goes g at.After-log_others it) (takes_first meaning one install now later here after _ (err_cuts e) c.in_err-log_others.ensures.takes)))

-- there is no memory for the work
pub returns-in_err-work-clause-call : goal.returns-in_err-work-clause-call
returns-in_err-work-clause-call g c =
    let meaning = g.O.Oper.meaning in
    let old = g.M.Machine.disk c.args.machine.now in
    let now = g.M.Machine.disk c.loop-name.machine in
    let before = c.args.store.now in
    let here = c.loop-name.store in
    subst (λ (k : Ending). IsLogging meaning old now before here (StopsAt log_limit) k) (short_ends c.from_residual.result c.from_residual.ensures.1)
    (call_short meaning old now before here (logged_since before here) (StopsAt log_limit) c.loop-name.invariant.call)

pub returns-in_err-work-clause-takes : goal.returns-in_err-work-clause-takes
returns-in_err-work-clause-takes g c =
    let meaning = g.O.Oper.meaning in
    let disk = g.M.Machine.disk in
    let here = c.loop-name.store.parts in
    let copied = c.args.copied in
    subst (λ (k : Ending). Takes meaning (disk c.args.machine.now) (disk c.loop-name.machine) c.args.store.now.parts here (λ m w used. install_course m copied w used) k) (short_ends c.from_residual.result c.from_residual.ensures.1)
    (c.loop-name.invariant.rest c.loop-name.machine here Short (takes_nothing meaning (disk c.loop-name.machine) here (g.met.M.Machine.lawful c.loop-name.machine) (λ m w used. install_course m copied w used)))

-- the node is finished, or the disk fails
module _ (g : Over) (c : After-finish_next g) where
  abbrev old : Disk
  old = g.M.Machine.disk c.args.machine.now

  abbrev now : Disk
  now = g.M.Machine.disk c.loop-name.machine

  abbrev later : Disk
  later = g.M.Machine.disk c.finish_next.new.machine

  finished_call : (ending : Ending) → IsCall g.O.Oper.meaning now later c.loop-name.store c.finish_next.new.store 0 Never ending → IsLogging g.O.Oper.meaning old later c.args.store.now c.finish_next.new.store (StopsAt log_limit) ending
  finished_call ending call =
      logging_twice g.O.Oper.meaning old now later c.args.store.now c.loop-name.store c.finish_next.new.store (StopsAt log_limit) ending c.loop-name.invariant.call
      (logging_none g.O.Oper.meaning now later c.loop-name.store c.finish_next.new.store (StopsAt log_limit) ending c.finish_next.ensures.next call)

  module _ (it : IsNext c.loop-name.store.parts.volatile c.in-Some.name c.as_slice-due.result.now) (p : Params) (v : World g.row.O.Denot) (shows : Shows (meaning_in g.O.Oper.meaning p) p now c.loop-name.store.parts v) where
    last : (install_course (meaning_in g.O.Oper.meaning p) c.args.copied v (log_length c.loop-name.store) ≡ course (finish_steps (meaning_in g.O.Oper.meaning p) v) (log_length c.loop-name.store) Through)
        × (flushed_in (install_course (meaning_in g.O.Oper.meaning p) c.args.copied v (log_length c.loop-name.store)).steps ≡ take 1 c.as_slice-due.result.now)
    last =
        let few = c.may_finish.ensures.few c.if-may_finish.true in
        let fresh = subst (λ (es : List Entry). IsFresh es c.in-Some.name c.args.copied c.as_slice-due.result.now) c.graph-in-Some-2.ensures (c.may_finish.ensures.fresh c.if-may_finish.true) in
        let keep : (b : Bounds) → IsSmall b → KeepsSound (g.O.Oper.meaning b) = λ b small v taken sound may. c.every_run_keeps.ensures.from_sound b v taken small sound may in
        let alone = c.last_blind_write_is_alone.ensures in (
          finishes g.O.Oper.meaning g.met.O.Oper.lawful keep alone c.args.copied now c.loop-name.store.parts c.in-Some.name c.as_slice-due.result.now it p v shows few fresh,
          finish_flush g.O.Oper.meaning g.met.O.Oper.lawful keep alone c.args.copied now c.loop-name.store.parts c.in-Some.name c.as_slice-due.result.now it p v shows few fresh,
        )

  finished_takes : IsNext c.loop-name.store.parts.volatile c.in-Some.name c.as_slice-due.result.now → (ending : Ending) → Takes g.O.Oper.meaning now later c.loop-name.store.parts c.finish_next.new.store.parts (λ m v used. course (finish_steps m v) used Through) ending
      → Takes g.O.Oper.meaning old later c.args.store.now.parts c.finish_next.new.store.parts (λ m w used. install_course m c.args.copied w used) ending
  finished_takes it ending takes =
      c.loop-name.invariant.rest c.finish_next.new.machine c.finish_next.new.store.parts ending
      (takes_same g.O.Oper.meaning now later c.loop-name.store.parts c.finish_next.new.store.parts (λ m v used. course (finish_steps m v) used Through) (λ m w used. install_course m c.args.copied w used) ending (λ p v shows. sym (last it p v shows).0) takes)

pub returns-in_err-ops-clause-call : goal.returns-in_err-ops-clause-call
returns-in_err-ops-clause-call g c =
    let at = (goal.at.returns-in_err-ops-clause-call g c).After-finish_next in
    subst (λ (k : Ending). IsLogging g.O.Oper.meaning (old g at) (later g at) c.args.store.now c.finish_next.new.store (StopsAt log_limit) k) (failed_ends c.from_residual-in_err-ops.result c.from_residual-in_err-ops.ensures.1)
    (finished_call g at Failed c.in_err-ops.ensures.call)

pub returns-in_err-ops-clause-takes : goal.returns-in_err-ops-clause-takes
returns-in_err-ops-clause-takes g c =
    let at = goal.at.returns-in_err-ops-clause-takes g c in
    subst (λ (k : Ending). Takes g.O.Oper.meaning (old g at.After-finish_next) (later g at.After-finish_next) c.args.store.now.parts c.finish_next.new.store.parts (λ m w used. install_course m c.args.copied w used) k)
    (failed_ends c.from_residual-in_err-ops.result c.from_residual-in_err-ops.ensures.1) (finished_takes g at.After-finish_next (next g at.After-graph-in-Some-2) Failed c.in_err-ops.ensures.takes)

pub returns-then-may_finish-clause-call : goal.returns-then-may_finish-clause-call
returns-then-may_finish-clause-call g c = finished_call g (goal.at.returns-then-may_finish-clause-call g c).After-finish_next Done c.in_ok-ops.ensures.call

pub returns-then-may_finish-clause-takes : goal.returns-then-may_finish-clause-takes
returns-then-may_finish-clause-takes g c =
    let at = goal.at.returns-then-may_finish-clause-takes g c in
    finished_takes g at.After-finish_next (next g at.After-graph-in-Some-2) Done c.in_ok-ops.ensures.takes

-- so many identity writes were logged, and so many entries left the graph
counted : (g : Over) (c : After-next g) → let before = c.args.store.now.parts in let after = c.finish_next.new.store.parts in let identities = c.next.result - c.next-first.result in
    (after.log.next ≡ before.log.next + identities) × (length after.volatile.entries + c.in_ok-ops.ops ≡ length before.volatile.entries + identities)
counted g c =
    let more = c.loop-name.invariant.logged.1 in
    let first = ap (λ (l : RecordLogView). l.next) c.log.ensures in
    let last = ap (λ (l : RecordLogView). l.next) c.log-then-may_finish.ensures in (
      omega (arith, c.next-first.ensures, c.next.ensures, first, last, c.finish_next.ensures.next, more.next),
      omega (arith, c.next-first.ensures, c.next.ensures, first, last, c.finish_next.ensures.next, more.next, c.in_ok-ops.ensures.ops.1, more.entries),
    )

pub returns-then-may_finish-clause-told : goal.returns-then-may_finish-clause-told
returns-then-may_finish-clause-told g c = λ p w shows.
    let at = goal.at.returns-then-may_finish-clause-told g c in
    let it = next g at.After-graph-in-Some-2 in
    let so_many = counted g at.After-next in
    let u = c.loop-name.invariant.flushed p w shows in
    told_done g.O.Oper.meaning c.args.copied (old g at.After-finish_next) (later g at.After-finish_next) c.args.store.now.parts c.finish_next.new.store.parts (finished_takes g at.After-finish_next it Done c.in_ok-ops.ensures.takes)
    (subst (λ (es : List Entry). IsStrictlyIncreasing (lsns es)) c.graph.ensures c.len-held.ensures.rising) c.in_ok-ops.ensures.rising c.in_ok-ops.ops c.first_of.result (c.next.result - c.next-first.result) so_many.0 so_many.1 p w shows
    (u.2 ∙ (last g at.After-finish_next it p u.0 u.1).1 ∙ sym c.first_of.ensures)

pub returns-then-may_finish-clause-tells : goal.returns-then-may_finish-clause-tells
returns-then-may_finish-clause-tells g c =
    let at = goal.at.returns-then-may_finish-clause-tells g c in
    let so_many = counted g at.After-next in
    record {
      clean = (λ e. cc, λ none. absurd (both_ways _ (ap (λ (es : List Entry). is_among c.in-Some.name (lsns es)) (c.loop-name.invariant.none none)) (next g at.After-graph-in-Some-2).least.0.1.held));
      some = λ no. c.in_ok-ops.ensures.ops.0;
      with_lsn = so_many.0;
      entries = so_many.1;
    }

-- there is nothing to install
pub returns-clause-takes : goal.returns-clause-takes
returns-clause-takes g c =
    let meaning = g.O.Oper.meaning in
    let here = c.loop-name.store.parts in
    let now = g.M.Machine.disk c.loop-name.machine in
    let copied = c.args.copied in
    let none = sym c.graph-in-loop-name.ensures ∙ c.in_default.ensures.none in
    c.loop-name.invariant.rest c.loop-name.machine here Done (takes_same meaning now now here here (λ m w used. course [] used Through) (λ m w used. install_course m copied w used) Done
    (λ p v shows. sym (none_left meaning copied now here none p v shows)) (takes_none meaning now here (g.met.M.Machine.lawful c.loop-name.machine)))

pub returns-clause-told : goal.returns-clause-told
returns-clause-told g c =
    let before = c.args.store.now.parts in
    let longer = c.loop-name.invariant.logged in
    let none = sym c.graph-in-loop-name.ensures ∙ c.in_default.ensures.none in
    λ p w shows.
    let m = meaning_in g.O.Oper.meaning p in
    told_none before c.loop-name.store.parts longer.0 longer.1 none m p (g.M.Machine.disk c.args.machine.now) w (install_course m c.args.copied w (log_length c.args.store.now)).steps shows

pub returns-clause-tells : goal.returns-clause-tells
returns-clause-tells g c =
    let longer = c.loop-name.invariant.logged in
    tells_none c.args.store.now.parts c.loop-name.store.parts longer.0 longer.1 (sym c.graph-in-loop-name.ensures ∙ c.in_default.ensures.none)

pub returns-then-may_finish-clause-logs : goal.returns-then-may_finish-clause-logs
returns-then-may_finish-clause-logs g c = logs_twice c.args.store.now.parts c.loop-name.store.parts c.finish_next.new.store.parts c.loop-name.invariant.logs c.in_ok-ops.ensures.logs

pub returns-clause-logs : goal.returns-clause-logs
returns-clause-logs g c = c.loop-name.invariant.logs
