use Rattle.explain_core.proofs.OneState.{sound-stands, crash-world, standing_sound}
use Rattle.explain_core.proofs.recovery.stable_parts_stand.Goals as goal

pub returns : goal.returns
returns g c = record {
  stands = λ b w s. sound-stands (g.O.Oper.meaning b) w s;
  crash = λ b w s. crash-world (g.O.Oper.meaning b) w s;
  sound = λ b parts h installed small s. standing_sound (g.O.Oper.meaning b) (g.met.O.Oper.lawful b small) parts h installed s;
}
