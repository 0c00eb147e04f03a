use Rattle.store_engine.proofs.ListFronts.{front_joined}
use Rattle.store_engine.proofs.lists.fronts_are_joined.Goals as goal

pub returns : goal.returns
returns g c = λ old mid new before between after p w commands front ops ending first adds.
    front_joined g.O.Oper.meaning p (g.M.Machine.disk old) (g.M.Machine.disk mid) (g.M.Machine.disk new) before between after w commands front (g.met.M.Machine.lawful mid) (g.met.M.Machine.lawful new) first ops ending adds
