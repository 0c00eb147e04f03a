use Rattle.std.proofs.Common.{◌≡◌, ◌∙◌, sym, subst, ap, List, length, arith}
use Rattle.std.specs.Prelude.{All, not, true}
use Rattle.std.specs.List.{filter}
use Rattle.std.specs.List.Sorted.{IsStrictlyIncreasing}
use Rattle.log_records.specs.RecordLog.{RecordLogView}
use Rattle.install_order.specs.declared.entry.Entry.{Entry}
use Rattle.write_graph.specs.Graph.{IsNodeNamed, NamesMinimal, lsns}
use Rattle.dirty_cache.specs.Contents.{is_dirty}
use Rattle.running_store.specs.Calls.Laws.{failed_force, unbroken_after}
use Rattle.running_store.specs.Calls.{IsCall, Never, call_twice}
use Rattle.running_store.specs.Courses.{course}
use Rattle.running_store.specs.Laid.Flushed.{DirtiesNone}
use Rattle.cache_manager.specs.InstallCourses.{finish_steps}
use Rattle.running_store.specs.Courses.Stop.{Through}
use Rattle.running_store.specs.StoreView.{StoreView, next_of}
use Rattle.running_store.specs.Taking.{Ending, Takes}
use Rattle.running_store.specs.Taking.Ending.{Done, Failed}
use Rattle.cache_manager.proofs.ToLog.DirtyLogs.{logs_removal}
use Rattle.cache_manager.proofs.NextNode.Taken.{takes_finished, takes_unfinished, takes_unforced}
use Rattle.cache_manager.proofs.NextNode.Work.{work_dirty}
use Rattle.cache_manager.proofs.rounds.finish_next.Goals as goal

pub finish-requires-clause-unbroken : goal.finish-requires-clause-unbroken
finish-requires-clause-unbroken g c = unbroken_after g.O.Oper.meaning _ _ c.args.store.now c.force.new.self 0 Never c.in_ok-force.ensures.call

pub finish-requires-clause-named : goal.finish-requires-clause-named
finish-requires-clause-named g c = subst (λ (s : StoreView). NamesMinimal s.parts.volatile.entries c.args.n) (sym c.in_ok-force.ensures.forced.1) c.requires.least.0

pub finish-requires-clause-dirty : goal.finish-requires-clause-dirty
finish-requires-clause-dirty g c = subst (λ (s : StoreView). All (λ x. is_dirty s.parts.volatile.objects.cache x ≡ true) c.args.work.now) (sym c.in_ok-force.ensures.forced.1)
    (work_dirty c.args.store.now.parts.volatile c.args.n c.requires.least c.args.work.now c.requires.is_work)

pub returns-in_err-force-clause-call : goal.returns-in_err-force-clause-call
returns-in_err-force-clause-call g c =
    subst (λ (k : Ending). IsCall g.O.Oper.meaning (g.M.Machine.disk c.args.machine.now) (g.M.Machine.disk c.force.new.machine) c.args.store.now c.force.new.self 0 Never k)
    (failed_force _ c.from_residual.result c.from_residual.ensures.1) c.in_err-force.ensures.call

pub returns-in_err-force-clause-takes : goal.returns-in_err-force-clause-takes
returns-in_err-force-clause-takes g c =
    let meaning = g.O.Oper.meaning in
    let d = g.M.Machine.disk c.args.machine.now in
    let mid = g.M.Machine.disk c.force.new.machine in
    let before = c.args.store.now.parts in
    let here = c.force.new.self.parts in
    subst (λ (k : Ending). Takes meaning d mid before here (λ m w used. course (finish_steps m w) used Through) k) (failed_force _ c.from_residual.result c.from_residual.ensures.1)
    (takes_unforced meaning g.met.O.Oper.lawful (λ b small v taken sound may. c.every_run_keeps.ensures.from_sound b v taken small sound may) d mid before here c.in_err-force.ensures.takes)

pub returns-in_err-finish-clause-call : goal.returns-in_err-finish-clause-call
returns-in_err-finish-clause-call g c =
    let d = g.M.Machine.disk c.args.machine.now in
    let mid = g.M.Machine.disk c.force.new.machine in
    let new = g.M.Machine.disk c.finish.new.machine in
    subst (λ (k : Ending). IsCall g.O.Oper.meaning d new c.args.store.now c.finish.new.self 0 Never k) (failed_force _ c.from_residual-in_err-finish.result c.from_residual-in_err-finish.ensures.1)
    (call_twice g.O.Oper.meaning d mid new c.args.store.now c.force.new.self c.finish.new.self 0 0 Never Never Failed c.in_ok-force.ensures.call c.in_err-finish.ensures.call)

pub returns-in_err-finish-clause-takes : goal.returns-in_err-finish-clause-takes
returns-in_err-finish-clause-takes g c =
    let meaning = g.O.Oper.meaning in
    let d = g.M.Machine.disk c.args.machine.now in
    let mid = g.M.Machine.disk c.force.new.machine in
    let new = g.M.Machine.disk c.finish.new.machine in
    let before = c.args.store.now.parts in
    let here = c.force.new.self.parts in
    let after = c.finish.new.self.parts in
    subst (λ (k : Ending). Takes meaning d new before after (λ m w used. course (finish_steps m w) used Through) k) (failed_force _ c.from_residual-in_err-finish.result c.from_residual-in_err-finish.ensures.1)
    (takes_unfinished meaning g.met.O.Oper.lawful (λ b small v taken sound may. c.every_run_keeps.ensures.from_sound b v taken small sound may) d mid before here c.in_ok-force.ensures.call.quiet c.in_ok-force.ensures.takes
    c.args.n c.requires.least c.args.work.now c.requires.is_work new after c.finish.ensures.steps)

pub returns-clause-call : goal.returns-clause-call
returns-clause-call g c =
    call_twice g.O.Oper.meaning (g.M.Machine.disk c.args.machine.now) (g.M.Machine.disk c.force.new.machine) (g.M.Machine.disk c.finish.new.machine) c.args.store.now c.force.new.self c.finish.new.self 0 0 Never Never Done
    c.in_ok-force.ensures.call c.in_ok-finish.ensures.call

pub returns-clause-takes : goal.returns-clause-takes
returns-clause-takes g c =
    let meaning = g.O.Oper.meaning in
    let d = g.M.Machine.disk c.args.machine.now in
    let mid = g.M.Machine.disk c.force.new.machine in
    let new = g.M.Machine.disk c.finish.new.machine in
    let before = c.args.store.now.parts in
    let here = c.force.new.self.parts in
    let after = c.finish.new.self.parts in
    let beside = c.in_ok-finish.ensures.beside.objects in
    takes_finished meaning g.met.O.Oper.lawful (λ b small v taken sound may. c.every_run_keeps.ensures.from_sound b v taken small sound may) d mid before here c.in_ok-force.ensures.call.quiet c.in_ok-force.ensures.takes
    c.args.n c.requires.least c.args.work.now c.requires.is_work new after c.in_ok-finish.ensures.steps c.requires.few (ap (λ (s : StoreView). s.parts.volatile) c.in_ok-force.ensures.forced.1) beside.runs beside.log c.in_ok-finish.ensures.shows

pub returns-in_err-force-clause-next : goal.returns-in_err-force-clause-next
returns-in_err-force-clause-next g c = ap (λ (s : StoreView). next_of s) c.in_err-force.ensures.forced

pub returns-in_err-finish-clause-next : goal.returns-in_err-finish-clause-next
returns-in_err-finish-clause-next g c = ap (λ (l : RecordLogView). l.next) (c.finish.ensures.beside.objects.log ∙ c.in_ok-force.ensures.forced.0)

pub returns-clause-next : goal.returns-clause-next
returns-clause-next g c = ap (λ (l : RecordLogView). l.next) (c.finish.ensures.beside.objects.log ∙ c.in_ok-force.ensures.forced.0)

pub overflow_sub-result : goal.overflow_sub-result
overflow_sub-result g c =
    let same = ap (λ (s : StoreView). length s.parts.volatile.entries) c.in_ok-force.ensures.forced.1 in
    let first = ap (λ (es : List Entry). length es) c.graph.ensures in
    let last = ap (λ (es : List Entry). length es) c.graph-2.ensures in
    let fewer = (c.in_ok-finish.ensures.entries c.requires.least.0.0 (subst (λ (s : StoreView). IsNodeNamed s.parts.volatile.entries c.args.n c.requires.least.0.0) (sym c.in_ok-force.ensures.forced.1) c.requires.least.0.1)).1 in
    omega (arith, c.len-held.ensures.count, c.len.ensures.count, first, last, same, fewer)

pub returns-clause-ops : goal.returns-clause-ops
returns-clause-ops g c =
    let held = c.len-held.ensures.count in
    let left = c.len.ensures.count in
    let first = ap (λ (es : List Entry). length es) c.graph.ensures in
    let last = ap (λ (es : List Entry). length es) c.graph-2.ensures in
    let same = ap (λ (s : StoreView). length s.parts.volatile.entries) c.in_ok-force.ensures.forced.1 in
    let fewer = (c.in_ok-finish.ensures.entries c.requires.least.0.0 (subst (λ (s : StoreView). IsNodeNamed s.parts.volatile.entries c.args.n c.requires.least.0.0) (sym c.in_ok-force.ensures.forced.1) c.requires.least.0.1)).1 in (
      omega (arith, held, left, first, last, same, fewer),
      omega (arith, held, left, first, last, same, fewer),
    )

pub returns-clause-rising : goal.returns-clause-rising
returns-clause-rising g c = subst (λ (es : List Entry). IsStrictlyIncreasing (lsns es)) c.graph-2.ensures c.len.ensures.rising

pub returns-clause-logs : goal.returns-clause-logs
returns-clause-logs g c =
    let before = c.args.store.now.parts in
    let least = c.requires.least.0 in
    let same = c.in_ok-force.ensures.forced.1 in
    logs_removal before c.finish.new.self.parts least.0 least.2
    ((c.in_ok-finish.ensures.entries least.0 (subst (λ (s : StoreView). IsNodeNamed s.parts.volatile.entries c.args.n least.0) (sym same) least.1)).0 ∙ ap (λ (s : StoreView). filter (λ e. not (least.0 e.lsn)) s.parts.volatile.entries) same)
    (ap (λ (l : RecordLogView). l.next) (c.finish.ensures.beside.objects.log ∙ c.in_ok-force.ensures.forced.0))
    (subst (λ (s : StoreView). DirtiesNone s.parts.volatile.objects c.finish.new.self.parts.volatile.objects) same c.in_ok-finish.ensures.dirty)
