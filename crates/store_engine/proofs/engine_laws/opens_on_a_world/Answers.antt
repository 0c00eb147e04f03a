use Rattle.store_engine.specs.ImageLaws.{stands_end}
use Rattle.store_engine.specs.Store.{meaning_in}
use Rattle.store_engine.proofs.Reopening.{restart_keeps}
use Rattle.store_engine.proofs.engine_laws.opens_on_a_world.Goals as goal

pub returns : goal.returns
returns g c = record {
  world = λ p files commands stands.
      let place = stands_end g.O.Oper.meaning stands in
      let found = c.files_show_a_world.ensures p files commands stands in
      (place.0, found.0, found.1, place.1);
  kept = λ p files commands w marks used found. restart_keeps (meaning_in g.O.Oper.meaning p) p files commands w found marks used;
}
