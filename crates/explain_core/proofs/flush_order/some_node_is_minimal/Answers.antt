use Rattle.explain_core.proofs.Graph.{minimal-ready}
use Rattle.explain_core.proofs.flush_order.some_node_is_minimal.Goals as goal

pub returns : goal.returns
returns g c b w n small s there = minimal-ready (g.O.Oper.meaning b) (g.met.O.Oper.lawful b small) w s n there
