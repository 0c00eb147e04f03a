use Rattle.install_order.proofs.Moved.{walks-same}
use Rattle.install_order.proofs.sparse.places_stand_for_lsns.Goals as goal

pub returns : goal.returns
returns c = walks-same
