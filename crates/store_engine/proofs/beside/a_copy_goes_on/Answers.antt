use Rattle.store_engine.specs.Lists.{commands_course}
use Rattle.store_engine.proofs.Besides.{CopyStays, copy_course, copy_some}
use Rattle.store_engine.proofs.CommandCopies.{IsOfCommands, copied_run}
use Rattle.store_engine.proofs.CommandSteps.{each_command}
use Rattle.store_engine.proofs.beside.a_copy_goes_on.Given.{Over}
use Rattle.store_engine.proofs.beside.a_copy_goes_on.Goals.{After-copy_stays}
use Rattle.store_engine.proofs.beside.a_copy_goes_on.Goals as goal

stays : (g : Over) (c : After-copy_stays g) → CopyStays g.O.Oper.meaning
stays g c = λ b copied cells w steps small sound is may beside. c.copy_stays.ensures.steps b copied cells w steps small sound is may beside

pub returns-clause-some : goal.returns-clause-some
returns-clause-some g c = copy_some g.O.Oper.meaning (stays g (goal.at.returns-clause-some g c).After-copy_stays)

pub returns-clause-course : goal.returns-clause-course
returns-clause-course g c = λ p old new before after copied cells w taken ending shows is may follows.
    copy_course g.O.Oper.meaning (stays g (goal.at.returns-clause-course g c).After-copy_stays) p (g.M.Machine.disk old) (g.M.Machine.disk new) before after copied cells w taken ending shows is may follows

pub returns-clause-commands : goal.returns-clause-commands
returns-clause-commands g c = λ b copied limit cells ops w used is.
    let m = g.O.Oper.meaning b in
    copied_run m copied cells w (commands_course m limit ops w used).steps (each_command m IsOfCommands (λ member. tt) tt limit ops w used) is
