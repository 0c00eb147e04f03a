use Rattle.install_order.proofs.Same.{same-reach}
use Rattle.install_order.proofs.sparse.arcs_reach_the_same.Goals as goal

pub returns : goal.returns
returns c = same-reach
