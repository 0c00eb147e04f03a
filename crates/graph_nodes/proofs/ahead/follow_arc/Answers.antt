use Rattle.std.proofs.Common.{◌∙◌, sym, arith}
use Rattle.graph_nodes.proofs.Found.{node-read}
use Rattle.graph_nodes.proofs.ahead.follow_arc.Goals as goal

pub bounds-node-to : goal.bounds-node-to
bounds-node-to c = (c.requires.ends c.args.cell c.in-Some.to (sym c.get.ensures ∙ c.in-Some.is)).0

pub add-requires : goal.add-requires
add-requires c =
    let ends = c.requires.ends c.args.cell c.in-Some.to (sym c.get.ensures ∙ c.in-Some.is) in
    omega (arith, ends.1, node-read c.args.nodes.now.node.now c.in-Some.to ends.0)
