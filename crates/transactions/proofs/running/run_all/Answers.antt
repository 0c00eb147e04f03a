use Rattle.std.proofs.Common.{◌∙◌}
use Rattle.std.specs.Prelude.{None, Some}
use Rattle.store_engine.specs.ListLaws.{calls_unbroken}
use Rattle.transactions.proofs.Making.{all_made, ends_by, no_refusal, none_left, none_made, one_more}
use Rattle.transactions.proofs.running.run_all.Goals as goal

pub loop-op-init : goal.loop-op-init
loop-op-init g c = record {
  unbroken = c.requires.unbroken;
  calls = c.nothing_is_made.ensures.calls c.requires.unbroken;
  made = λ p commands holds accepted.
      none_made g.O.Oper.meaning p commands (g.M.Machine.disk c.args.machine.now) c.args.engine.now holds c.args.ops.now.items (c.nothing_is_made.ensures.front p commands holds) accepted;
}

pub loop-op-preserved : goal.loop-op-preserved
loop-op-preserved g c =
    let disk = g.M.Machine.disk in
    let so_far = c.loop-op.invariant in
    record {
      unbroken = calls_unbroken g.O.Oper.meaning (disk c.loop-op.machine) (disk c.exec.new.machine) c.loop-op.engine c.exec.new.self c.in_default-exec.ensures.calls;
      calls = c.calls_go_on.ensures c.args.machine.now c.loop-op.machine c.exec.new.machine c.args.engine.now c.loop-op.engine c.exec.new.self None so_far.calls c.in_default-exec.ensures.calls;
      made = λ p commands holds accepted.
          one_more g.O.Oper.meaning p commands disk c.args.machine.now c.loop-op.machine c.exec.new.machine c.args.engine.now c.loop-op.engine c.exec.new.self holds c.args.ops.now.items c.loop-op.ops.items c.in-Some.op c.pop_front.new.self.items
          (so_far.made p commands holds accepted) c.in-Some.ensures.items c.exec_goes_on.ensures.done c.in_default-exec.field-0 c.in_default-exec.ensures.run;
    }

pub returns-in-Err-clause-calls : goal.returns-in-Err-clause-calls
returns-in-Err-clause-calls g c =
    c.calls_go_on.ensures c.args.machine.now c.loop-op.machine c.exec.new.machine c.args.engine.now c.loop-op.engine c.exec.new.self (Some c.in-Err.e) c.loop-op.invariant.calls c.in-Err.ensures.calls

pub returns-in-Err-clause-adds : goal.returns-in-Err-clause-adds
returns-in-Err-clause-adds g c = λ p commands holds accepted.
    ends_by g.O.Oper.meaning p commands g.M.Machine.disk c.args.machine.now c.loop-op.machine c.exec.new.machine c.args.engine.now c.loop-op.engine c.exec.new.self holds c.args.ops.now.items c.loop-op.ops.items c.in-Some.op c.pop_front.new.self.items
    (c.loop-op.invariant.made p commands holds accepted) c.in-Some.ensures.items c.exec_goes_on.ensures.stopped c.exec_goes_on.ensures.failed c.in-Err.e c.in-Err.ensures.run

pub returns-in-Err-clause-unrefused : goal.returns-in-Err-clause-unrefused
returns-in-Err-clause-unrefused g c = λ p commands holds accepted.
    no_refusal g.O.Oper.meaning p commands g.M.Machine.disk c.args.machine.now c.loop-op.machine c.exec.new.machine c.args.engine.now c.loop-op.engine c.exec.new.self holds c.args.ops.now.items c.loop-op.ops.items c.in-Some.op c.pop_front.new.self.items
    (c.loop-op.invariant.made p commands holds accepted) c.in-Some.ensures.items c.in-Err.e c.in-Err.ensures.run

pub returns-clause-adds : goal.returns-clause-adds
returns-clause-adds g c = λ p commands holds accepted.
    all_made g.O.Oper.meaning p commands (g.M.Machine.disk c.args.machine.now) (g.M.Machine.disk c.loop-op.machine) c.args.engine.now c.loop-op.engine holds c.args.ops.now.items c.loop-op.ops.items
    (c.loop-op.invariant.made p commands holds accepted) (none_left c.loop-op.ops.items (c.in_default.ensures.items ∙ c.in_default.ensures.rest))
