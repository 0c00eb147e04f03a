use Rattle.backup_copy.proofs.Passed.{read_attached}
use Rattle.backup_copy.proofs.copying.copy.Goals as goal

pub returns-clause-attached : goal.returns-clause-attached
returns-clause-attached g c =
    read_attached g.O.Oper.meaning (g.M.Machine.disk c.args.machine.now) (g.M.Machine.disk c.copy_up_to.new.machine) c.args.engine.now c.copy_up_to.new.engine c.copy_up_to.ensures.read
