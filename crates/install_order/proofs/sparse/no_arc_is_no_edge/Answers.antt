use Rattle.install_order.proofs.Tell.{no-arc-into}
use Rattle.install_order.proofs.sparse.no_arc_is_no_edge.Goals as goal

pub returns : goal.returns
returns c = no-arc-into
