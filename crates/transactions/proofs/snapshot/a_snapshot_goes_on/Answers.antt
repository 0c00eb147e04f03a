use Rattle.transactions.proofs.GoingOn.{goes_on}
use Rattle.transactions.proofs.snapshot.a_snapshot_goes_on.Goals as goal

pub returns : goal.returns
returns g c = λ p snapshot base commands ops n it covers. goes_on g.O.Oper.meaning p snapshot base commands ops n it covers
