use Rattle.running_store.specs.Calls.{IsCall, Never, ending_of_store}
use Rattle.running_store.specs.Taking.{Takes}
use Rattle.cache_manager.specs.Endings.{at_err}
use Rattle.checkpointing.specs.Courses.{closing_course}
use Rattle.checkpointing.proofs.Closing.{closing_call, closing_done, closing_fails, refused_call}
use Rattle.checkpointing.proofs.checkpoints.closing_checkpoint.Goals as goal

pub returns-in_err-take_checkpoint-clause-call : goal.returns-in_err-take_checkpoint-clause-call
returns-in_err-take_checkpoint-clause-call g c =
    let d = g.M.Machine.disk c.args.machine.now in
    let new = g.M.Machine.disk c.take_checkpoint.new.machine in
    let it = c.args.store.now in
    let after = c.take_checkpoint.new.store in
    at_err (λ r. IsCall g.O.Oper.meaning d new it after 0 Never (ending_of_store r)) c.from_residual.result c.in_err-take_checkpoint.field-0.0 c.from_residual.ensures.1
    (refused_call g.O.Oper.meaning d new it after Never c.in_err-take_checkpoint.field-0.0 c.in_err-take_checkpoint.ensures.call)

pub returns-in_err-take_checkpoint-clause-takes : goal.returns-in_err-take_checkpoint-clause-takes
returns-in_err-take_checkpoint-clause-takes g c =
    let d = g.M.Machine.disk c.args.machine.now in
    let new = g.M.Machine.disk c.take_checkpoint.new.machine in
    let it = c.args.store.now.parts in
    let after = c.take_checkpoint.new.store.parts in
    at_err (λ r. Takes g.O.Oper.meaning d new it after (λ m w used. closing_course m w used) (ending_of_store r)) c.from_residual.result c.in_err-take_checkpoint.field-0.0 c.from_residual.ensures.1
    (closing_fails g.O.Oper.meaning d new it after c.in_err-take_checkpoint.field-0.0 c.in_err-take_checkpoint.ensures.takes)

pub returns-clause-call : goal.returns-clause-call
returns-clause-call g c =
    closing_call g.O.Oper.meaning (g.M.Machine.disk c.args.machine.now) (g.M.Machine.disk c.take_checkpoint.new.machine) c.args.store.now c.take_checkpoint.new.store c.in_ok-take_checkpoint.field-0 c.in_ok-take_checkpoint.ensures.call

pub returns-clause-takes : goal.returns-clause-takes
returns-clause-takes g c =
    let after = c.take_checkpoint.new.store.parts in
    closing_done g.O.Oper.meaning (g.M.Machine.disk c.args.machine.now) (g.M.Machine.disk c.take_checkpoint.new.machine) c.args.store.now.parts after after.log c.in_ok-take_checkpoint.field-0 c.in_ok-take_checkpoint.ensures.takes
