use Rattle.install_order.proofs.Added.{arcs-added}
use Rattle.install_order.proofs.sparse.arcs_of_one_more.Goals as goal

pub returns : goal.returns
returns c = arcs-added
