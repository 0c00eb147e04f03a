use Rattle.store_engine.proofs.ListFetches.{fetch_done, fetch_failed}
use Rattle.store_engine.proofs.ListFronts.{front_short}
use Rattle.store_engine.proofs.lists.fetch_goes_on.Goals as goal

pub returns : goal.returns
returns g c = record {
  done = λ old mid new before between after p w commands front object first fetched.
      fetch_done g.O.Oper.meaning p (g.M.Machine.disk old) (g.M.Machine.disk mid) (g.M.Machine.disk new) before between after w commands front (g.met.M.Machine.lawful mid) (g.met.M.Machine.lawful new) first object fetched;
  failed = λ old mid new before between after p w commands front rest object e first fetched.
      fetch_failed g.O.Oper.meaning p (g.M.Machine.disk old) (g.M.Machine.disk mid) (g.M.Machine.disk new) before between after w commands front (g.met.M.Machine.lawful mid) (g.met.M.Machine.lawful new) first object e fetched rest;
  memory = λ old now before after p w commands front rest first.
      front_short g.O.Oper.meaning p (g.M.Machine.disk old) (g.M.Machine.disk now) (g.M.Machine.disk now) before after after w commands front (g.met.M.Machine.lawful now) (g.met.M.Machine.lawful now) first rest;
}
