use Rattle.explain_core.proofs.Tables.{checkpoint_sound}
use Rattle.explain_core.proofs.steps.checkpoint_keeps.Goals as goal

pub returns : goal.returns
returns g c b w s may = checkpoint_sound (g.O.Oper.meaning b) w may.0 s
