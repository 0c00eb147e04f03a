use Rattle.explain_core.proofs.Gate.{gate_sound}
use Rattle.explain_core.proofs.steps.block_gate_keeps.Goals as goal

pub returns : goal.returns
returns g c b w s may = gate_sound (g.O.Oper.meaning b) w may.0 may.1 s
