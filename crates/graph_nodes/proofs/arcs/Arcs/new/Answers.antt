use Rattle.std.proofs.Common.{arith}
use Rattle.graph_nodes.proofs.Paged.{pages-none}
use Rattle.graph_nodes.proofs.arcs.Arcs.new.Goals as goal

pub invariant_of-result : goal.invariant_of-result
invariant_of-result c = (pages-none c.new.result.items c.new-2.result.items c.new.ensures.items c.new-2.ensures.items, omega arith, omega arith, omega arith)
