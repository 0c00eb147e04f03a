use Rattle.serving.proofs.Stables.{all_stable}
use Rattle.serving.proofs.laws.an_opened_store_has_its_names.Goals as goal

pub returns : goal.returns
returns g c old new engine budget lo hi p commands names opens is told small named = all_stable told small (is.shows opens.first.0 opens.first.1).0 named is.all
