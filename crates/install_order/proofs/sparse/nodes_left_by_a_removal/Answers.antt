use Rattle.install_order.specs.Digraph.{arcs}
use Rattle.install_order.specs.RemovalLaws.{nodes-left}
use Rattle.install_order.proofs.sparse.nodes_left_by_a_removal.Goals as goal

pub returns : goal.returns
returns c = λ e. nodes-left (arcs e)
