use Rattle.install_order.proofs.Fewer.{arcs-left}
use Rattle.install_order.proofs.sparse.arcs_left_by_a_removal.Goals as goal

pub returns : goal.returns
returns c = arcs-left
