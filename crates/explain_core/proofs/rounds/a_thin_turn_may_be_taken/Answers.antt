use Rattle.explain_core.proofs.ThinRuns.{thin_turn_allowed}
use Rattle.explain_core.proofs.rounds.a_thin_turn_may_be_taken.Goals as goal

pub returns : goal.returns
returns g c b most w small sound stable = thin_turn_allowed (g.O.Oper.meaning b) (g.met.O.Oper.lawful b small) w sound stable most
