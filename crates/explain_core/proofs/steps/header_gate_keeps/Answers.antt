use Rattle.explain_core.proofs.Tables.{header_sound}
use Rattle.explain_core.proofs.steps.header_gate_keeps.Goals as goal

pub returns : goal.returns
returns g c b w base s may = header_sound (g.O.Oper.meaning b) w base may.0 may.1.0 may.2 may.3 may.4 s
