use Rattle.store_engine.proofs.Formats.{few_stand, well_formed}
use Rattle.store_engine.proofs.engine_laws.standing_files_meet_their_format.Goals as goal

pub returns : goal.returns
returns g c = record {
  format = λ p files commands stands. well_formed g.O.Oper.meaning p files commands stands (λ x s below two is_open. c.standing_files_have_no_fault.ensures.late p files commands stands x s below two is_open);
  few = λ p files commands stands. few_stand g.O.Oper.meaning p files commands stands;
}
