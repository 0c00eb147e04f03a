use Rattle.std.proofs.Common.{arith}
use Rattle.graph_nodes.proofs.Found.{searching-end}
use Rattle.graph_nodes.proofs.Ways.{below-apart}
use Rattle.graph_nodes.proofs.uniting.search.Goals as goal

pub take_way-requires-clause-over : goal.take_way-requires-clause-over
take_way-requires-clause-over c =
    let searches = c.look.new.searches in
    searching-end c.args.nodes.now.arcs.now.cells c.args.nodes.now.node.now c.args.levels.now.near c.args.v c.args.w searches.back.next searches.found.members (omega (arith, c.if-searches-len.true, c.len.ensures.count)) c.look.ensures.against

pub returns-then-at-clause-way : goal.returns-then-at-clause-way
returns-then-at-clause-way c =
    let nodes = c.args.nodes.now in
    let levels = c.give_up.new.levels in
    let still = c.give_up.ensures.still in
    below-apart nodes.arcs.now.cells nodes.node.now levels.level.items levels.near c.requires.ready.nodes still.levelled c.args.v c.args.w (omega (arith, c.if-at.true, c.at.ensures, c.at-2.ensures))

pub take_way-requires-2-clause-over : goal.take_way-requires-2-clause-over
take_way-requires-2-clause-over c =
    let searches = c.look_all.new.searches in
    searching-end c.args.nodes.now.arcs.now.cells c.args.nodes.now.node.now c.give_up.new.levels.near c.args.v c.args.w searches.back.next searches.found.members c.look_all.ensures.over c.look_all.ensures.against
