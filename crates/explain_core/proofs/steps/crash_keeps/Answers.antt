use Rattle.explain_core.proofs.Crash.{crash_sound}
use Rattle.explain_core.proofs.steps.crash_keeps.Goals as goal

pub returns : goal.returns
returns g c b w small s = crash_sound (g.O.Oper.meaning b) (g.met.O.Oper.lawful b small) w s
