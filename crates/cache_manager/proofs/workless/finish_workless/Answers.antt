use Rattle.std.proofs.Common.{◌≡◌, ◌∙◌, sym, subst, ℕ, ◌<◌, List, [], length, refl, arith}
use Rattle.std.proofs.lemmas.Bool.Decides.{nat_tests}
use Rattle.install_order.specs.declared.entry.Entry.{Entry}
use Rattle.write_graph.specs.Graph.{IsLeast, NamesMinimal}
use Rattle.running_store.specs.Calls.Laws.{call_short}
use Rattle.running_store.specs.Calls.{IsCall, Never, call_none}
use Rattle.running_store.specs.Courses.{course}
use Rattle.running_store.specs.Courses.Stop.{Through}
use Rattle.running_store.specs.Parts.{Parts, meaning_in}
use Rattle.running_store.specs.StoreView.{log_length}
use Rattle.running_store.specs.Taking.{Ending, Takes}
use Rattle.running_store.specs.Taking.Ending.{Done, Failed}
use Rattle.running_store.specs.Taking.Laws.{takes_none, takes_nothing, takes_same}
use Rattle.cache_manager.specs.Endings.{failed_ends, short_ends}
use Rattle.cache_manager.specs.InstallCourses.{finish_steps, workless_course}
use Rattle.cache_manager.specs.Thin.{IsWork}
use Rattle.cache_manager.proofs.ToLog.DirtyLogs.{logs_none}
use Rattle.cache_manager.proofs.OneInstall.Taken.{IsNext, next_here}
use Rattle.cache_manager.proofs.ThinTurns.{none_in}
use Rattle.cache_manager.proofs.WorklessTaken.{finishes_workless, is_workless, none_workless, not_workless, nothing_workless}
use Rattle.cache_manager.proofs.workless.finish_workless.Given.{Over}
use Rattle.cache_manager.proofs.workless.finish_workless.Goals.{In_ok-work}
use Rattle.cache_manager.proofs.workless.finish_workless.Goals as goal

-- there is no node
pub returns-in_default-clause-call : goal.returns-in_default-clause-call
returns-in_default-clause-call g c = call_none g.O.Oper.meaning (g.M.Machine.disk c.args.machine.now) c.args.store.now Never (g.met.M.Machine.lawful c.args.machine.now) c.requires.unbroken

pub returns-in_default-clause-takes : goal.returns-in_default-clause-takes
returns-in_default-clause-takes g c =
    let meaning = g.O.Oper.meaning in
    let d = g.M.Machine.disk c.args.machine.now in
    let it = c.args.store.now.parts in
    let none = sym c.graph.ensures ∙ c.in_default.ensures.none in
    takes_same meaning d d it it (λ m w used. course [] used Through) (λ m w used. workless_course m w used) Done
    (λ p w shows. let m = meaning_in meaning p in nothing_workless m w (log_length c.args.store.now) (none_workless m p d it w shows none)) (takes_none meaning d it (g.met.M.Machine.lawful c.args.machine.now))

pub returns-in_default-clause-found : goal.returns-in_default-clause-found
returns-in_default-clause-found g c = λ p w shows.
    sym (none_workless (meaning_in g.O.Oper.meaning p) p (g.M.Machine.disk c.args.machine.now) c.args.store.now.parts w shows (sym c.graph.ensures ∙ c.in_default.ensures.none))

pub returns-in_default-clause-fewer : goal.returns-in_default-clause-fewer
returns-in_default-clause-fewer g c = omega arith

pub returns-in_default-clause-logs : goal.returns-in_default-clause-logs
returns-in_default-clause-logs g c = logs_none c.args.store.now.parts

pub work_of-requires : goal.work_of-requires
work_of-requires g c =
    let least = subst (λ (es : List Entry). IsLeast (NamesMinimal es) c.in-Some.name) (c.graph.ensures ∙ sym c.graph-2.ensures) c.in-Some.ensures.some in
    (least.0.0, least.0.1)

-- there is no memory
pub returns-in_err-work-clause-call : goal.returns-in_err-work-clause-call
returns-in_err-work-clause-call g c =
    let d = g.M.Machine.disk c.args.machine.now in
    let it = c.args.store.now in
    subst (λ (k : Ending). IsCall g.O.Oper.meaning d d it it 0 Never k) (short_ends c.from_residual.result c.from_residual.ensures.1)
    (call_short g.O.Oper.meaning d d it it 0 Never (call_none g.O.Oper.meaning d it Never (g.met.M.Machine.lawful c.args.machine.now) c.requires.unbroken))

pub returns-in_err-work-clause-takes : goal.returns-in_err-work-clause-takes
returns-in_err-work-clause-takes g c =
    let d = g.M.Machine.disk c.args.machine.now in
    let it = c.args.store.now.parts in
    subst (λ (k : Ending). Takes g.O.Oper.meaning d d it it (λ m w used. workless_course m w used) k) (short_ends c.from_residual.result c.from_residual.ensures.1)
    (takes_nothing g.O.Oper.meaning d it (g.met.M.Machine.lawful c.args.machine.now) (λ m w used. workless_course m w used))

-- the next node, and what it has to flush
next : (g : Over) (c : In_ok-work g) → IsNext c.args.store.now.parts.volatile c.in-Some.name c.in_ok-work.work.items
next g c =
    let items = c.in_ok-work.work.items in
    next_here c.args.store.now.parts.volatile c.in-Some.name c.objects.result.now c.graph.result.now.entries c.graph-2.result.now.entries items items
    c.objects.ensures c.graph.ensures c.graph-2.ensures refl c.in-Some.ensures.some c.in_ok-work.ensures

-- it has nothing to flush
pub finish_next-requires-clause-least : goal.finish_next-requires-clause-least
finish_next-requires-clause-least g c = (next g (goal.at.finish_next-requires-clause-least g c).In_ok-work).least

pub finish_next-requires-clause-is_work : goal.finish_next-requires-clause-is_work
finish_next-requires-clause-is_work g c = λ node named.
    subst (λ (l : List ℕ). IsWork c.args.store.now.parts.volatile node l) (none_in c.in_ok-work.work.items (grind (arith, nat_tests, c.if-is_empty.ensures))) ((next g (goal.at.finish_next-requires-clause-is_work g c).In_ok-work).work node named)

pub finish_next-requires-clause-few : goal.finish_next-requires-clause-few
finish_next-requires-clause-few g c = omega arith

finished_takes : (g : Over) (c : In_ok-work g) (later : g.row.M.Denot) (after : Parts) → c.in_ok-work.work.items ≡ [] → (ending : Ending)
    → Takes g.O.Oper.meaning (g.M.Machine.disk c.args.machine.now) (g.M.Machine.disk later) c.args.store.now.parts after (λ m w used. course (finish_steps m w) used Through) ending
    → Takes g.O.Oper.meaning (g.M.Machine.disk c.args.machine.now) (g.M.Machine.disk later) c.args.store.now.parts after (λ m w used. workless_course m w used) ending
finished_takes g c later after none ending takes =
    let old = g.M.Machine.disk c.args.machine.now in
    let before = c.args.store.now.parts in
    takes_same g.O.Oper.meaning old (g.M.Machine.disk later) before after (λ m w used. course (finish_steps m w) used Through) (λ m w used. workless_course m w used) ending
    (λ p w shows. finishes_workless g.O.Oper.meaning g.met.O.Oper.lawful old before c.in-Some.name c.in_ok-work.work.items (next g c) p w shows none (log_length c.args.store.now)) takes

pub returns-in_err-finish_next-clause-call : goal.returns-in_err-finish_next-clause-call
returns-in_err-finish_next-clause-call g c =
    subst (λ (k : Ending). IsCall g.O.Oper.meaning (g.M.Machine.disk c.args.machine.now) (g.M.Machine.disk c.finish_next.new.machine) c.args.store.now c.finish_next.new.store 0 Never k)
    (failed_ends c.from_residual-in_err-finish_next.result c.from_residual-in_err-finish_next.ensures.1) c.in_err-finish_next.ensures.call

pub returns-in_err-finish_next-clause-takes : goal.returns-in_err-finish_next-clause-takes
returns-in_err-finish_next-clause-takes g c =
    subst (λ (k : Ending). Takes g.O.Oper.meaning (g.M.Machine.disk c.args.machine.now) (g.M.Machine.disk c.finish_next.new.machine) c.args.store.now.parts c.finish_next.new.store.parts (λ m w used. workless_course m w used) k)
    (failed_ends c.from_residual-in_err-finish_next.result c.from_residual-in_err-finish_next.ensures.1)
    (finished_takes g (goal.at.returns-in_err-finish_next-clause-takes g c).In_ok-work c.finish_next.new.machine c.finish_next.new.store.parts (none_in c.in_ok-work.work.items (grind (arith, nat_tests, c.if-is_empty.ensures))) Failed c.in_err-finish_next.ensures.takes)

pub returns-in_err-finish_next-clause-next : goal.returns-in_err-finish_next-clause-next
returns-in_err-finish_next-clause-next g c = c.finish_next.ensures.next

pub returns-then-is_empty-clause-call : goal.returns-then-is_empty-clause-call
returns-then-is_empty-clause-call g c = c.in_ok-finish_next.ensures.call

pub returns-then-is_empty-clause-takes : goal.returns-then-is_empty-clause-takes
returns-then-is_empty-clause-takes g c =
    finished_takes g (goal.at.returns-then-is_empty-clause-takes g c).In_ok-work c.finish_next.new.machine c.finish_next.new.store.parts (none_in c.in_ok-work.work.items (grind (arith, nat_tests, c.if-is_empty.ensures))) Done c.in_ok-finish_next.ensures.takes

pub returns-then-is_empty-clause-found : goal.returns-then-is_empty-clause-found
returns-then-is_empty-clause-found g c = λ p w shows.
    sym (is_workless g.O.Oper.meaning g.met.O.Oper.lawful (g.M.Machine.disk c.args.machine.now) c.args.store.now.parts c.in-Some.name c.in_ok-work.work.items
    (next g (goal.at.returns-then-is_empty-clause-found g c).In_ok-work) p w shows (none_in c.in_ok-work.work.items (grind (arith, nat_tests, c.if-is_empty.ensures))))

pub returns-then-is_empty-clause-next : goal.returns-then-is_empty-clause-next
returns-then-is_empty-clause-next g c = c.finish_next.ensures.next

pub returns-then-is_empty-clause-fewer : goal.returns-then-is_empty-clause-fewer
returns-then-is_empty-clause-fewer g c = let ops = c.in_ok-finish_next.ensures.ops in omega (arith, ops.0, ops.1)

pub returns-then-is_empty-clause-logs : goal.returns-then-is_empty-clause-logs
returns-then-is_empty-clause-logs g c = c.in_ok-finish_next.ensures.logs

-- it has something
pub returns-clause-call : goal.returns-clause-call
returns-clause-call g c = call_none g.O.Oper.meaning (g.M.Machine.disk c.args.machine.now) c.args.store.now Never (g.met.M.Machine.lawful c.args.machine.now) c.requires.unbroken

pub returns-clause-takes : goal.returns-clause-takes
returns-clause-takes g c =
    let meaning = g.O.Oper.meaning in
    let d = g.M.Machine.disk c.args.machine.now in
    let it = c.args.store.now.parts in
    let items = c.in_ok-work.work.items in
    let more : 0 < length items = grind (arith, nat_tests, c.if-is_empty.ensures) in
    let one = next g (goal.at.returns-clause-takes g c).In_ok-work in
    takes_same meaning d d it it (λ m w used. course [] used Through) (λ m w used. workless_course m w used) Done
    (λ p w shows. nothing_workless (meaning_in meaning p) w (log_length c.args.store.now) (not_workless meaning g.met.O.Oper.lawful d it c.in-Some.name items one p w shows more))
    (takes_none meaning d it (g.met.M.Machine.lawful c.args.machine.now))

pub returns-clause-found : goal.returns-clause-found
returns-clause-found g c = λ p w shows.
    let items = c.in_ok-work.work.items in
    let more : 0 < length items = grind (arith, nat_tests, c.if-is_empty.ensures) in
    sym (not_workless g.O.Oper.meaning g.met.O.Oper.lawful (g.M.Machine.disk c.args.machine.now) c.args.store.now.parts c.in-Some.name items (next g (goal.at.returns-clause-found g c).In_ok-work) p w shows more)

pub returns-clause-fewer : goal.returns-clause-fewer
returns-clause-fewer g c = omega arith

pub returns-clause-logs : goal.returns-clause-logs
returns-clause-logs g c = logs_none c.args.store.now.parts
