use Rattle.std.proofs.Common.{◌≡◌, ◌∙◌, sym, subst, ap, ℕ, ◌+◌, ◌-◌, ◌≤◌, Bool, [], length, refl, arith}
use Rattle.std.specs.Prelude.{if◌then◌else◌}
use Rattle.running_store.specs.Calls.Laws.{unbroken_after}
use Rattle.running_store.specs.Calls.{IsCall, Never, call_none, call_twice}
use Rattle.running_store.specs.Courses.{Course, course}
use Rattle.running_store.specs.Courses.Stop.{Through}
use Rattle.running_store.specs.Parts.{meaning_in}
use Rattle.running_store.specs.Taking.Rests.{rest_next, rest_same}
use Rattle.running_store.specs.StoreView.{log_length}
use Rattle.running_store.specs.Taking.{Ending, Takes}
use Rattle.running_store.specs.Taking.Ending.{Done}
use Rattle.running_store.specs.Taking.Laws.{both, takes_first, takes_none, takes_same}
use Rattle.explain_core.specs.World.{run}
use Rattle.cache_manager.specs.Endings.{err_cuts, same_ends}
use Rattle.cache_manager.specs.InstallCourses.{removals, workless_course, workless_nodes}
use Rattle.cache_manager.proofs.ToLog.DirtyLogs.{logs_none, logs_twice}
use Rattle.cache_manager.proofs.NextWorkless.{nodes_not}
use Rattle.cache_manager.proofs.WorklessTaken.{first_removed, nodes_first, nothing_workless}
use Rattle.cache_manager.proofs.workless.finish_all_workless.Goals as goal

pub loop-count-init : goal.loop-count-init
loop-count-init g c =
    let meaning = g.O.Oper.meaning in
    let disk = g.M.Machine.disk in
    let it = c.args.store.now in
    let most = c.args.most in
    let all : most - 0 ≡ most = omega arith in
    record {
      call = call_none meaning (disk c.args.machine.now) it Never (g.met.M.Machine.lawful c.args.machine.now) c.requires.unbroken;
      within = omega arith;
      next = refl;
      fewer = omega arith;
      logs = logs_none it.parts;
      rest = λ new after ending takes.
          subst (λ (k : ℕ). Takes meaning (disk c.args.machine.now) (disk new) it.parts after (λ m w used. workless_nodes m k w used) ending) all takes;
      removed = λ p w shows.
          let same = ap (λ (k : ℕ). removals (workless_nodes (meaning_in meaning p) k w (log_length it)).steps) all in
          (w, shows, omega (arith, same));
    }

pub finish_workless-requires : goal.finish_workless-requires
finish_workless-requires g c = record { unbroken = unbroken_after g.O.Oper.meaning _ _ c.args.store.now c.loop-count.store 0 Never c.loop-count.invariant.call }

pub loop-count-preserved : goal.loop-count-preserved
loop-count-preserved g c =
    let meaning = g.O.Oper.meaning in
    let disk = g.M.Machine.disk in
    let before = c.args.store.now in
    let here = c.loop-count.store in
    let after = c.finish_workless.new.store in
    let now = c.loop-count.machine in
    let later = c.finish_workless.new.machine in
    let most = c.args.most in
    let count = c.loop-count.count in
    let so_far = c.loop-count.invariant in
    let done = c.in_ok-found.ensures in
    let more = c.loop-count-test.true in
    let found = c.if-not-found.false in
    let fewer = subst (λ (b : Bool). length after.parts.volatile.entries + (if b then 1 else 0) ≤ length here.parts.volatile.entries) found done.fewer in
    record {
      call = call_twice meaning (disk c.args.machine.now) (disk now) (disk later) before here after 0 0 Never Never Done so_far.call done.call;
      within = omega (arith, more);
      next = c.finish_workless.ensures.next ∙ so_far.next;
      fewer = omega (arith, so_far.fewer, fewer);
      logs = logs_twice before.parts here.parts after.parts so_far.logs done.logs;
      rest = rest_next disk meaning c.args.machine.now now before.parts here.parts (λ m w used. workless_nodes m most w used) (λ m w used. workless_course m w used) (λ m w used. workless_nodes m (most - (count + 1)) w used)
          later after.parts done.call.quiet done.takes
          (rest_same disk meaning c.args.machine.now now before.parts here.parts (λ m w used. workless_nodes m most w used) (λ m w used. workless_nodes m (most - count) w used)
          (both meaning (λ m w used. workless_course m w used) (λ m w used. workless_nodes m (most - (count + 1)) w used))
          (λ p w shows. nodes_first (meaning_in meaning p) most count more w (log_length here)) so_far.rest);
      removed = λ p w shows.
          let m = meaning_in meaning p in
          let u = so_far.removed p w shows in
          let taken = (done.takes.follows p u.0 u.1).1 in
          let v = run m u.0 (workless_course m u.0 (log_length here)).steps in
          let one = first_removed m most count more u.0 (log_length here) (sym (done.found p u.0 u.1) ∙ found) in
          let same = ap (λ (k : ℕ). removals (workless_nodes m (most - (count + 1)) v k).steps) taken.used in
          (v, taken.shows, omega (arith, u.2, one, same));
    }

pub returns-in_err-found-clause-call : goal.returns-in_err-found-clause-call
returns-in_err-found-clause-call g c =
    let disk = g.M.Machine.disk in
    subst (λ (k : Ending). IsCall g.O.Oper.meaning (disk c.args.machine.now) (disk c.finish_workless.new.machine) c.args.store.now c.finish_workless.new.store 0 Never k) (same_ends c.from_residual.result c.in_err-found.field-0.0 c.from_residual.ensures.1)
    (call_twice g.O.Oper.meaning (disk c.args.machine.now) (disk c.loop-count.machine) (disk c.finish_workless.new.machine) c.args.store.now c.loop-count.store c.finish_workless.new.store 0 0 Never Never _ c.loop-count.invariant.call c.in_err-found.ensures.call)

pub returns-in_err-found-clause-takes : goal.returns-in_err-found-clause-takes
returns-in_err-found-clause-takes g c =
    let meaning = g.O.Oper.meaning in
    let disk = g.M.Machine.disk in
    let most = c.args.most in
    let count = c.loop-count.count in
    let here = c.loop-count.store in
    let after = c.finish_workless.new.store.parts in
    let now = disk c.loop-count.machine in
    let later = disk c.finish_workless.new.machine in
    let e = c.in_err-found.field-0.0 in
    subst (λ (k : Ending). Takes meaning (disk c.args.machine.now) later c.args.store.now.parts after (λ m w used. workless_nodes m most w used) k) (same_ends c.from_residual.result e c.from_residual.ensures.1)
    (c.loop-count.invariant.rest c.finish_workless.new.machine after _
    (takes_same meaning now later here.parts after (both meaning (λ m w used. workless_course m w used) (λ m w used. workless_nodes m (most - (count + 1)) w used)) (λ m w used. workless_nodes m (most - count) w used) _
    (λ p w shows. nodes_first (meaning_in meaning p) most count c.loop-count-test.true w (log_length here))
    (takes_first meaning (λ m w used. workless_course m w used) (λ m w used. workless_nodes m (most - (count + 1)) w used) now later here.parts after _ (err_cuts e) c.in_err-found.ensures.takes)))

pub returns-in_err-found-clause-next : goal.returns-in_err-found-clause-next
returns-in_err-found-clause-next g c = c.finish_workless.ensures.next ∙ c.loop-count.invariant.next

-- the next node has an object to flush, or there is none
pub returns-then-not-found-clause-call : goal.returns-then-not-found-clause-call
returns-then-not-found-clause-call g c =
    let disk = g.M.Machine.disk in
    call_twice g.O.Oper.meaning (disk c.args.machine.now) (disk c.loop-count.machine) (disk c.finish_workless.new.machine) c.args.store.now c.loop-count.store c.finish_workless.new.store 0 0 Never Never Done c.loop-count.invariant.call c.in_ok-found.ensures.call

pub returns-then-not-found-clause-takes : goal.returns-then-not-found-clause-takes
returns-then-not-found-clause-takes g c =
    let meaning = g.O.Oper.meaning in
    let disk = g.M.Machine.disk in
    let left = c.args.most - c.loop-count.count in
    let here = c.loop-count.store in
    let after = c.finish_workless.new.store.parts in
    let done = c.in_ok-found.ensures in
    c.loop-count.invariant.rest c.finish_workless.new.machine after Done
    (takes_same meaning (disk c.loop-count.machine) (disk c.finish_workless.new.machine) here.parts after (λ m w used. workless_course m w used) (λ m w used. workless_nodes m left w used) Done
    (λ p w shows.
    let m = meaning_in meaning p in
    let none = sym (done.found p w shows) ∙ c.if-not-found.true in
    sym (nothing_workless m w (log_length here) none) ∙ sym (nodes_not m left w (log_length here) none)) done.takes)

pub returns-then-not-found-clause-count : goal.returns-then-not-found-clause-count
returns-then-not-found-clause-count g c = λ p w shows.
    let m = meaning_in g.O.Oper.meaning p in
    let u = c.loop-count.invariant.removed p w shows in
    let none = sym (c.in_ok-found.ensures.found p u.0 u.1) ∙ c.if-not-found.true in
    let left = ap (λ (k : Course _). removals k.steps) (nodes_not m (c.args.most - c.loop-count.count) u.0 (log_length c.loop-count.store) none) in
    omega (arith, u.2, left)

pub returns-then-not-found-clause-next : goal.returns-then-not-found-clause-next
returns-then-not-found-clause-next g c = c.finish_workless.ensures.next ∙ c.loop-count.invariant.next

pub returns-then-not-found-clause-fewer : goal.returns-then-not-found-clause-fewer
returns-then-not-found-clause-fewer g c = omega (arith, c.loop-count.invariant.fewer, c.in_ok-found.ensures.fewer)

pub returns-then-not-found-clause-most : goal.returns-then-not-found-clause-most
returns-then-not-found-clause-most g c = c.loop-count.invariant.within

pub returns-then-not-found-clause-logs : goal.returns-then-not-found-clause-logs
returns-then-not-found-clause-logs g c = logs_twice c.args.store.now.parts c.loop-count.store.parts c.finish_workless.new.store.parts c.loop-count.invariant.logs c.in_ok-found.ensures.logs

-- there are as many as may be
pub returns-clause-call : goal.returns-clause-call
returns-clause-call g c = c.loop-count.invariant.call

pub returns-clause-takes : goal.returns-clause-takes
returns-clause-takes g c =
    let meaning = g.O.Oper.meaning in
    let d = g.M.Machine.disk c.loop-count.machine in
    let here = c.loop-count.store in
    let left = c.args.most - c.loop-count.count in
    let none : 0 ≡ left = omega (arith, c.loop-count-test.false) in
    c.loop-count.invariant.rest c.loop-count.machine here.parts Done
    (takes_same meaning d d here.parts here.parts (λ m w used. course [] used Through) (λ m w used. workless_nodes m left w used) Done
    (λ p w shows. ap (λ (k : ℕ). workless_nodes (meaning_in meaning p) k w (log_length here)) none) (takes_none meaning d here.parts (g.met.M.Machine.lawful c.loop-count.machine)))

pub returns-clause-count : goal.returns-clause-count
returns-clause-count g c = λ p w shows.
    let u = c.loop-count.invariant.removed p w shows in
    let none : c.args.most - c.loop-count.count ≡ 0 = omega (arith, c.loop-count-test.false) in
    let left = ap (λ (k : ℕ). removals (workless_nodes (meaning_in g.O.Oper.meaning p) k u.0 (log_length c.loop-count.store)).steps) none in
    omega (arith, u.2, left)

pub returns-clause-next : goal.returns-clause-next
returns-clause-next g c = c.loop-count.invariant.next

pub returns-clause-fewer : goal.returns-clause-fewer
returns-clause-fewer g c = c.loop-count.invariant.fewer

pub returns-clause-most : goal.returns-clause-most
returns-clause-most g c = c.loop-count.invariant.within

pub returns-clause-logs : goal.returns-clause-logs
returns-clause-logs g c = c.loop-count.invariant.logs
