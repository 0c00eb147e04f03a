use Rattle.explain_core.proofs.Exact.{can-gives, can-from}
use Rattle.explain_core.proofs.flush_order.exactly_no_edge.Goals as goal

pub returns : goal.returns
returns g c b h i j s first e part = (can-gives (g.O.Oper.meaning b) h i j s first e part, can-from (g.O.Oper.meaning b) h i j s first e part)
