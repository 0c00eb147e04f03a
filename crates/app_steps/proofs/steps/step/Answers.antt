use Rattle.std.proofs.Common.{subst}
use Rattle.op_codec.specs.AllOps.{AllOps, all_meaning}
use Rattle.store_engine.specs.Commands.{HasRun}
use Rattle.app_steps.proofs.steps.step.Goals as goal

pub returns-clause-run : goal.returns-clause-run
returns-clause-run g c =
    subst (λ (op : AllOps). HasRun all_meaning (g.M.Machine.disk c.args.machine.now) (g.M.Machine.disk c.exec.new.machine) c.args.engine.now c.exec.new.self op c.exec.result) c.next.ensures c.exec.ensures.run
