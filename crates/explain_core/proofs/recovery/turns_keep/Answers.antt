use Rattle.explain_core.specs.KeptLog.{turns_kept}
use Rattle.explain_core.proofs.TurnRuns.{turns-sound, turns-map}
use Rattle.explain_core.proofs.recovery.turns_keep.Goals as goal

pub returns : goal.returns
returns g c = record {
  allowed = λ b w marks n small s stable. (turns-sound (g.O.Oper.meaning b) (g.met.O.Oper.lawful b small) marks n w s stable).0;
  sound = λ b w marks n small s stable. (turns-sound (g.O.Oper.meaning b) (g.met.O.Oper.lawful b small) marks n w s stable).1;
  log = λ b w marks n. turns_kept (g.O.Oper.meaning b) marks n w;
  map = λ b w marks n x small s stable live. turns-map (g.O.Oper.meaning b) (g.met.O.Oper.lawful b small) marks n w s stable live x;
}
