use Rattle.std.proofs.Common.{◌/◌, arith}
use Rattle.graph_nodes.proofs.Found.{node-read}
use Rattle.graph_nodes.proofs.spreading.starts_in.Goals as goal

pub contains-requires : goal.contains-requires
contains-requires c =
    let read = node-read c.args.node.now (c.args.cell / 8) c.requires.slot in
    let below = c.requires.below (c.args.cell / 8) c.requires.slot in
    omega (arith, read, below)
