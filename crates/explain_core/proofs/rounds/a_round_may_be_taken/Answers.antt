use Rattle.explain_core.proofs.RoundMay.{round_may}
use Rattle.explain_core.proofs.rounds.a_round_may_be_taken.Goals as goal

pub returns : goal.returns
returns g c b may most w small sound stable = round_may (g.O.Oper.meaning b) (g.met.O.Oper.lawful b small) w sound stable may most
