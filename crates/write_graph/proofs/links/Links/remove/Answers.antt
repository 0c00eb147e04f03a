use Rattle.std.proofs.Common.{◌∙◌}
use Rattle.install_order.specs.Order.{NoEdgeInto}
use Rattle.graph_nodes.specs.Arcs.{node_at}
use Rattle.write_graph.specs.Cells.{slot_access}
use Rattle.write_graph.proofs.Removed.{in_node, in-node, off-node, linked-left}
use Rattle.write_graph.proofs.links.Links.remove.Goals as goal

pub returns-clause-linked : goal.returns-clause-linked
returns-clause-linked c =
    let g = c.args.self.now.graph in
    let entries = c.args.entries.now.items in
    let a = slot_access entries g.held in
    let m = node_at g.node c.args.slot in
    let none : NoEdgeInto a (in_node g m) = (c.no_arc_is_no_edge.ensures a (in_node g m)).1 (λ o p out there arc. off-node g m o out (c.requires.minimal o p (c.requires.linked.arcs.all o p arc) (in-node g m p there))) in
    linked-left entries g c.remove.new.self c.args.self.now.rows m c.requires.linked c.remove.ensures.removed (c.len-slots.ensures.held ∙ c.len-slots.ensures.count) c.remove.ensures.nodes none (λ o p. (c.arcs_left_by_a_removal.ensures a (in_node g m) o p none).0)
