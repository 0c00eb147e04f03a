use Rattle.explain_core.specs.World.Step.{Replay}
use Rattle.explain_core.proofs.Runs.{step_sound}
use Rattle.explain_core.proofs.steps.replay_keeps.Goals as goal

pub returns : goal.returns
returns g c b w small s may = step_sound (g.O.Oper.meaning b) (g.met.O.Oper.lawful b small) w Replay may s
