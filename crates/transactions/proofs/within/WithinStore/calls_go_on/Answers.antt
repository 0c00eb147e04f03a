use Rattle.transactions.proofs.WithinLemmas.{within_goes_on}
use Rattle.transactions.proofs.within.WithinStore.calls_go_on.Goals as goal

pub returns : goal.returns
returns g c = within_goes_on g.O.Oper.meaning g.M.Machine.disk
