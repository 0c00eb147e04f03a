use Rattle.stable_objects.proofs.Upgraded.Staying.{still_in_front, still_headed}
use Rattle.stable_objects.proofs.slot_laws.a_store_stays_while_it_grows.Goals as goal

pub returns : goal.returns
returns c slots old new are first head keeps = (still_in_front slots old new are first head keeps, still_headed slots old new are first head keeps)
