use Rattle.std.proofs.Common.{arith}
use Rattle.graph_nodes.proofs.Raised.{pruned-none}
use Rattle.graph_nodes.proofs.pruning.prune_found.Goals as goal

pub loop-i-init : goal.loop-i-init
loop-i-init c = (pruned-none c.args.nodes.now.arcs.now.cells c.args.nodes.now.node.now c.args.near.now, omega arith)

pub prune-requires-clause-list : goal.prune-requires-clause-list
prune-requires-clause-list c = omega (arith, c.get-n.ensures.below, c.requires.ready.lists, c.loop-i.invariant.0.same.lists)

pub prune-requires-clause-cells : goal.prune-requires-clause-cells
prune-requires-clause-cells c k t = c.requires.ready.cells c.get-n.result k (c.loop-i.invariant.0.fewer c.get-n.result k t)

pub prune-requires-clause-items : goal.prune-requires-clause-items
prune-requires-clause-items c = omega (arith, c.requires.items, c.loop-i.invariant.0.same.items)

pub prune-requires-clause-room : goal.prune-requires-clause-room
prune-requires-clause-room c = omega (arith, c.requires.ready.fit, c.loop-i.invariant.0.same.items, c.loop-i.invariant.1)
