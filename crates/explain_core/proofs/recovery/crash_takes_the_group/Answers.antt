use Rattle.explain_core.proofs.GroupLaws.{group-lost, group-counted}
use Rattle.explain_core.proofs.recovery.crash_takes_the_group.Goals as goal

pub returns : goal.returns
returns g c = record {
  lost = λ b w begun s e. group-lost (g.O.Oper.meaning b) w begun s e;
  commands = λ b w begun s e. group-counted (g.O.Oper.meaning b) w begun s e;
}
