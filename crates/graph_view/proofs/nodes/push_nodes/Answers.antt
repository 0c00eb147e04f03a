use Rattle.std.specs.Prelude.{string_bytes}
use Rattle.graph_view.proofs.NodeLemmas.{none_said, one_said, all_said}
use Rattle.graph_view.proofs.nodes.push_nodes.Goals as goal

pub loop-name-init : goal.loop-name-init
loop-name-init c = none_said c.args.graph.now.entries (string_bytes c.args.text.now)

pub loop-name-preserved : goal.loop-name-preserved
loop-name-preserved c = one_said c.args.graph.now.entries c.loop-name.graph.entries _ _ _ _ _ c.loop-name.invariant c.in-Some.ensures.some c.in_ok-take_node.ensures

pub loop-name-smaller : goal.loop-name-smaller
loop-name-smaller c = c.in_ok-take_node.ensures.fewer

pub take_node-requires : goal.take_node-requires
take_node-requires c = c.in-Some.ensures.some.0

pub returns : goal.returns
returns c = all_said c.args.graph.now.entries c.loop-name.graph.entries _ _ c.loop-name.invariant c.in_default.ensures.none
