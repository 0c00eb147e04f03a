use Rattle.std.proofs.Common.{arith}
use Rattle.graph_nodes.proofs.Levelled.{have-none}
use Rattle.graph_nodes.proofs.Ordered.{kept-none}
use Rattle.graph_nodes.proofs.Told.{marked-none}
use Rattle.graph_nodes.proofs.graph.SlotGraph.new.Goals as goal

pub invariant_of-result : goal.invariant_of-result
invariant_of-result c = rw (c.new.ensures, c.new-2.ensures.items, c.new-3.ensures.items) (
  kept-none c.new-4.result.name c.new-5.result c.new-6.result c.new-4.ensures.name c.new-5.ensures.lists c.new-6.ensures.lists c.new-5.ensures.items c.new-6.ensures.items,
  c.new-7.ensures.found,
  c.new-7.ensures.ahead,
  record {
    arcs = omega arith;
    node = omega arith;
    held = omega arith;
    name = omega arith;
    scratch = omega arith;
    member_lists = omega arith;
    members = omega arith;
    into_lists = omega arith;
    into = omega arith;
    found = omega arith;
    ahead = omega arith;
  },
  marked-none c.new-6.result c.new-4.result c.new-4.ensures.names c.new-4.ensures.minimal,
  have-none c.new-8.result.level.items c.new-8.result.near c.new-8.ensures.level c.new-8.ensures.lists c.new-8.ensures.items,
  record { level = omega arith; lists = omega arith; items = omega arith },
)
