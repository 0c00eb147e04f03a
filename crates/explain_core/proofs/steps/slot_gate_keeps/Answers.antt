use Rattle.explain_core.proofs.Nodes.{slot_sound}
use Rattle.explain_core.proofs.steps.slot_gate_keeps.Goals as goal

pub returns : goal.returns
returns g c b w node x s may = slot_sound (g.O.Oper.meaning b) w node x may.0.0 may.0.1.1 may.0.2.0 may.1 may.2 s
