use Rattle.explain_core.specs.TurnBound.{redo_over}
use Rattle.explain_core.proofs.recovery.turns_end.Goals as goal

pub returns : goal.returns
returns g c b w marks none = redo_over (g.O.Oper.meaning b) marks w none
