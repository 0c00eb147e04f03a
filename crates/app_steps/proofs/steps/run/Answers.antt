use Rattle.std.proofs.Common.{arith, subst}
use Rattle.std.specs.Prelude.{None, Some}
use Rattle.op_codec.specs.AllOps.{AllOps, all_meaning}
use Rattle.store_calls.specs.Making.{Runs}
use Rattle.app_steps.proofs.Counting.{begins}
use Rattle.app_steps.proofs.Ending.{all_answer, all_front, ends_answer, ends_calls, ends_front, one_more}
use Rattle.app_steps.proofs.steps.run.Goals as goal

pub loop-done-init : goal.loop-done-init
loop-done-init g c = record {
  unbroken = c.requires.unbroken;
  calls = c.nothing_is_made.ensures.calls c.requires.unbroken;
  made = λ p commands holds. record { front = c.nothing_is_made.ensures.front p commands holds; counts = begins p commands (g.A.Steps.command c.args.app.now) c.args.most };
}

pub loop-done-preserved : goal.loop-done-preserved
loop-done-preserved g c =
    let so_far = c.loop-done.invariant in
    let ran = subst (λ (op : AllOps). Runs g.S.Store.view (g.M.Machine.disk c.loop-done.machine) (g.M.Machine.disk c.exec.new.machine) c.loop-done.store c.exec.new.self all_meaning op None) c.next.ensures c.in_default.ensures in
    let calls = c.calls_go_on.ensures.calls c.args.machine.now c.loop-done.machine c.exec.new.machine c.args.store.now c.loop-done.store c.exec.new.self None so_far.calls ran.makes.calls in
    record {
      unbroken = calls.unbroken (λ none. none);
      calls = calls;
      made = λ p commands holds.
          one_more g.S.Store.view g.M.Machine.disk c.calls_go_on.ensures c.args.machine.now c.loop-done.machine c.exec.new.machine c.args.store.now c.loop-done.store c.exec.new.self (g.A.Steps.command c.args.app.now) c.args.most c.loop-done.done
          p commands holds (so_far.made p commands holds) c.loop-done-test.true ran;
    }

pub returns-in-Err-clause-calls : goal.returns-in-Err-clause-calls
returns-in-Err-clause-calls g c =
    ends_calls g.S.Store.view g.M.Machine.disk c.calls_go_on.ensures c.args.machine.now c.loop-done.machine c.exec.new.machine c.args.store.now c.loop-done.store c.exec.new.self (g.A.Steps.command c.args.app.now) c.args.most c.loop-done.done
    c.loop-done.invariant.calls c.in-Err.e c.in-Err.ensures.makes.calls c.ended.result c.ended.ensures

pub returns-in-Err-clause-adds : goal.returns-in-Err-clause-adds
returns-in-Err-clause-adds g c = λ p commands holds.
    ends_front g.S.Store.view g.M.Machine.disk c.calls_go_on.ensures c.args.machine.now c.loop-done.machine c.exec.new.machine c.args.store.now c.loop-done.store c.exec.new.self (g.A.Steps.command c.args.app.now) c.args.most c.loop-done.done
    p commands holds (c.loop-done.invariant.made p commands holds) c.loop-done-test.true c.in-Err.e (subst (λ (op : AllOps). Runs g.S.Store.view (g.M.Machine.disk c.loop-done.machine) (g.M.Machine.disk c.exec.new.machine) c.loop-done.store c.exec.new.self all_meaning op (Some c.in-Err.e)) c.next.ensures c.in-Err.ensures) c.ended.result c.ended.ensures

pub returns-in-Err-clause-answer : goal.returns-in-Err-clause-answer
returns-in-Err-clause-answer g c = λ p commands holds.
    ends_answer g.S.Store.view g.M.Machine.disk c.calls_go_on.ensures c.args.machine.now c.loop-done.machine c.exec.new.machine c.args.store.now c.loop-done.store c.exec.new.self (g.A.Steps.command c.args.app.now) c.args.most c.loop-done.done
    p commands holds (c.loop-done.invariant.made p commands holds) c.loop-done-test.true c.in-Err.e (subst (λ (op : AllOps). Runs g.S.Store.view (g.M.Machine.disk c.loop-done.machine) (g.M.Machine.disk c.exec.new.machine) c.loop-done.store c.exec.new.self all_meaning op (Some c.in-Err.e)) c.next.ensures c.in-Err.ensures) c.ended.result c.ended.ensures

pub returns-clause-adds : goal.returns-clause-adds
returns-clause-adds g c = λ p commands holds.
    all_front g.S.Store.view p (g.M.Machine.disk c.args.machine.now) (g.M.Machine.disk c.loop-done.machine) c.args.store.now c.loop-done.store (g.A.Steps.command c.args.app.now) c.args.most commands c.loop-done.done (omega (arith, c.loop-done.auto.done-end, c.loop-done-test.false)) (c.loop-done.invariant.made p commands holds)

pub returns-clause-answer : goal.returns-clause-answer
returns-clause-answer g c = λ p commands holds.
    all_answer g.S.Store.view p (g.M.Machine.disk c.args.machine.now) (g.M.Machine.disk c.loop-done.machine) c.args.store.now c.loop-done.store (g.A.Steps.command c.args.app.now) c.args.most commands c.loop-done.done (omega (arith, c.loop-done.auto.done-end, c.loop-done-test.false)) (c.loop-done.invariant.made p commands holds)
