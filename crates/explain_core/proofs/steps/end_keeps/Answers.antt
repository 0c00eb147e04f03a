use Rattle.explain_core.proofs.Groups.{end_sound}
use Rattle.explain_core.proofs.steps.end_keeps.Goals as goal

pub returns : goal.returns
returns g c b w s may = end_sound (g.O.Oper.meaning b) w s
