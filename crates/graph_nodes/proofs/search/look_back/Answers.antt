use Rattle.std.proofs.Common.{◌/◌, arith}
use Rattle.graph_nodes.proofs.Found.{node-read}
use Rattle.graph_nodes.proofs.search.look_back.Goals as goal

pub add-requires : goal.add-requires
add-requires c =
    let read = node-read c.args.node.now (c.args.cell / 8) c.requires.slot in
    let below = c.requires.below (c.args.cell / 8) c.requires.slot in
    omega (arith, read, below)
