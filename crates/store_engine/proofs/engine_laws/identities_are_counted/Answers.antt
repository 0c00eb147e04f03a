use Rattle.store_engine.specs.Store.{meaning_in}
use Rattle.store_engine.proofs.Logged.{history_longer}
use Rattle.store_engine.proofs.engine_laws.identities_are_counted.Goals as goal

pub returns : goal.returns
returns g c = λ p w steps are. history_longer (meaning_in g.O.Oper.meaning p) w steps are
