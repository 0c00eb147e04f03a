use Rattle.explain_core.proofs.Groups.{begin_sound}
use Rattle.explain_core.proofs.steps.begin_keeps.Goals as goal

pub returns : goal.returns
returns g c b w s may = begin_sound (g.O.Oper.meaning b) w may.1.0 s
