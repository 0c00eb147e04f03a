use Rattle.std.proofs.Common.{arith}
use Rattle.graph_nodes.proofs.search.step_back.Goals as goal

pub count-requires : goal.count-requires
count-requires c = omega (arith, c.get-n.ensures.below, c.requires.ready.lists)

pub expand-requires-clause-list : goal.expand-requires-clause-list
expand-requires-clause-list c = omega (arith, c.get-n.ensures.below, c.requires.ready.lists)

pub expand-requires-clause-cells : goal.expand-requires-clause-cells
expand-requires-clause-cells c = c.requires.ready.cells c.get-n.result

pub expand-requires-clause-below : goal.expand-requires-clause-below
expand-requires-clause-below c = c.requires.ready.below

pub expand-requires-clause-room : goal.expand-requires-clause-room
expand-requires-clause-room c = c.requires.ready.fit
