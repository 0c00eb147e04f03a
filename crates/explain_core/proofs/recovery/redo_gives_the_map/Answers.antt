use Rattle.explain_core.proofs.Runs.{replayed_map}
use Rattle.explain_core.proofs.recovery.redo_gives_the_map.Goals as goal

pub returns : goal.returns
returns g c = record {
  allowed = λ b w small s. (replayed_map (g.O.Oper.meaning b) (g.met.O.Oper.lawful b small) w s).0;
  live = λ b w small s. (replayed_map (g.O.Oper.meaning b) (g.met.O.Oper.lawful b small) w s).1;
  map = λ b w x small s. (replayed_map (g.O.Oper.meaning b) (g.met.O.Oper.lawful b small) w s).2 x;
}
