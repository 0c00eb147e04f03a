use Rattle.install_order.proofs.Tell.{node-told}
use Rattle.install_order.proofs.sparse.representatives_tell_nodes.Goals as goal

pub returns : goal.returns
returns c = node-told
