use Rattle.store_engine.specs.Store.{meaning_in}
use Rattle.store_engine.proofs.Emptied.{trimmed_empty}
use Rattle.store_engine.proofs.engine_laws.a_trim_behind_a_drain_leaves_nothing.Goals as goal

pub returns : goal.returns
returns g c = λ p w epoch used none. trimmed_empty (meaning_in g.O.Oper.meaning p) w none epoch used
