use Rattle.store_engine.proofs.ListMachines.{calls_joined}
use Rattle.store_engine.proofs.lists.calls_go_on.Goals as goal

pub returns : goal.returns
returns g c = λ old mid new before between after error first second.
    calls_joined g.O.Oper.meaning (g.M.Machine.disk old) (g.M.Machine.disk mid) (g.M.Machine.disk new) before between after error (g.met.M.Machine.lawful new) first second
