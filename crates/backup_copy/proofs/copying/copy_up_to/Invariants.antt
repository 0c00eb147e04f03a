use Rattle.backup_copy.proofs.Passed.{HasPassed}
use Rattle.backup_copy.proofs.copying.copy_up_to.Given as goal

abbrev pub invariant-loop-object : goal.invariant-loop-object
invariant-loop-object g l =
    HasPassed g.O.Oper.meaning (g.M.Machine.disk l.fn.machine) (g.M.Machine.disk l.machine) l.fn.engine l.engine (g.T.Machine.disk l.fn.target) (g.T.Machine.disk l.target) l.copied l.object
