use Rattle.std.proofs.Common.{◌∙◌, sym}
use Rattle.graph_nodes.specs.Search.{IsBehind}
use Rattle.graph_nodes.proofs.Taken.{up-there}
use Rattle.graph_nodes.proofs.spreading.take_up.Goals as goal

pub returns-then-contains-clause-taken : goal.returns-then-contains-clause-taken
returns-then-contains-clause-taken c = up-there (IsBehind c.args.arcs.now.cells c.args.node.now c.args.into.now) c.args.n c.args.taken.now (sym c.contains.ensures ∙ c.if-contains.true)
