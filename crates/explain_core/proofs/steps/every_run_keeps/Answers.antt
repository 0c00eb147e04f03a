use Rattle.explain_core.proofs.Runs.{run_sound, new_sound}
use Rattle.explain_core.proofs.steps.every_run_keeps.Goals as goal

pub returns : goal.returns
returns g c = record {
  from_sound = λ b w steps small s may. run_sound (g.O.Oper.meaning b) (g.met.O.Oper.lawful b small) w steps may s;
  from_new = λ b steps small may. run_sound (g.O.Oper.meaning b) (g.met.O.Oper.lawful b small) _ steps may (new_sound (g.O.Oper.meaning b));
}
