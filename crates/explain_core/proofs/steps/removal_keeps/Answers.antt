use Rattle.explain_core.proofs.Nodes.{removal_sound}
use Rattle.explain_core.proofs.steps.removal_keeps.Goals as goal

pub returns : goal.returns
returns g c b w node s may = removal_sound (g.O.Oper.meaning b) w node may.0.0 may.0.1.1 may.0.2.0 may.1 s
