use Rattle.std.proofs.Common.{◌++◌, List, subst}
use Rattle.store_engine.specs.Engine.{Opens}
use Rattle.transactions.proofs.Undone.{are_those, holds_those, leaves_those}
use Rattle.transactions.proofs.rolling_back.roll_back.Goals as goal

pub returns-clause-opening : goal.returns-clause-opening
returns-clause-opening g c = c.reopen.ensures.opening

pub returns-clause-ready : goal.returns-clause-ready
returns-clause-ready g c = c.reopen.ensures.ready

pub returns-clause-undone : goal.returns-clause-undone
returns-clause-undone g c = λ told p commands ops holds size.
    holds_those g.O.Oper.meaning p (g.M.Machine.disk c.args.machine.now) c.args.engine commands ops (c.engine_stands.ensures p (commands ++ ops) holds) size (g.M.Machine.disk c.reopen.new.machine) c.reopen.result
    (c.reopen.ensures.back told p (commands ++ ops) holds) c.reopen.ensures.ready

pub returns-clause-images : goal.returns-clause-images
returns-clause-images g c = λ told p commands ops holds size.
    leaves_those g.O.Oper.meaning p (g.M.Machine.disk c.args.machine.now) c.args.engine commands ops (c.engine_stands.ensures p (commands ++ ops) holds) size (g.M.Machine.disk c.reopen.new.machine)
    (c.reopen.ensures.images told p (commands ++ ops) holds)

pub returns-clause-again : goal.returns-clause-again
returns-clause-again g c = λ told p commands ops holds size.
    let says = c.engine_stands.ensures p (commands ++ ops) holds in
    subst (λ (l : List _). Opens g.O.Oper.meaning p (g.M.Machine.disk c.reopen.new.machine) l)
    (are_those g.O.Oper.meaning p (g.M.Machine.disk c.args.machine.now) c.args.engine commands ops says size) (c.reopen.ensures.again told p (commands ++ ops) holds)

pub returns-clause-undamaged : goal.returns-clause-undamaged
returns-clause-undamaged g c = λ told p commands ops holds size. c.reopen.ensures.undamaged told p (commands ++ ops) holds
