use Rattle.standing.proofs.ObjectsChanged.{stands_grown, stands_still}
use Rattle.standing.proofs.standing_files.a_changed_objects_file_stands.Goals as goal

pub returns : goal.returns
returns g c = record {
  still = λ p old new commands others objects cells stands. stands_still g.O.Oper.meaning c.same_parts_stand_for_the_same.ensures p commands old new others stands objects cells;
  grown = λ p q old new commands larger others grown stands. stands_grown g.O.Oper.meaning c.same_parts_stand_for_the_same.ensures p commands old new others stands g.met.O.Oper.widens g.met.O.Oper.bounded q larger grown;
}
