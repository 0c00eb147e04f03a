use Rattle.store_engine.proofs.ListCourses.{none_logged_in}
use Rattle.store_engine.proofs.lists.commands_log_no_identity.Goals as goal

pub returns : goal.returns
returns g c = λ b limit ops w used. none_logged_in (g.O.Oper.meaning b) limit ops w used
