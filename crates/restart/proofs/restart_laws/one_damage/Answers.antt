use Rattle.restart.specs.DamageLaws.{one_first_fault, is_fault, passes_all}
use Rattle.restart.proofs.restart_laws.one_damage.Goals as goal

pub returns : goal.returns
returns g c = record {
  place = λ files file other place at a b. one_first_fault g.O.Oper.meaning g.met.O.Oper.bounded g.met.O.Oper.lawful files file other place at a.fault b.fault;
  fault = λ files file place damage. is_fault g.O.Oper.meaning files file place damage.fault;
  none = λ files file place image damage. passes_all g.O.Oper.meaning g.met.O.Oper.bounded g.met.O.Oper.lawful files file place image damage.fault;
}
