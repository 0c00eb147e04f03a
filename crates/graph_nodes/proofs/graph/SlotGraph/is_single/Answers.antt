use Rattle.std.proofs.Common.{sym, subst, ◌<◌, length, arith}
use Rattle.graph_nodes.specs.Named.{Graph}
use Rattle.graph_nodes.proofs.Ordered.{value-at}
use Rattle.graph_nodes.proofs.Asked.{single-iff}
use Rattle.graph_nodes.proofs.graph.SlotGraph.is_single.Goals as goal

pub count-requires : goal.count-requires
count-requires c =
    let range = c.self.invariant.0.range in
    let slot : c.args.slot < length c.self.inside.node.items = subst (λ (g : Graph). c.args.slot < length g.node) (sym c.self.view_is) c.requires in
    let at = value-at c.self.inside.node.items c.args.slot c.index.result.now slot c.index.ensures in
    omega (arith, at, range.nodes c.args.slot slot, range.member_lists)

pub returns : goal.returns
returns c =
    let kept = c.self.invariant.0 in
    let nodes = c.self.inside.node.items in
    let slot : c.args.slot < length nodes = subst (λ (g : Graph). c.args.slot < length g.node) (sym c.self.view_is) c.requires in
    let at = value-at nodes c.args.slot c.index.result.now slot c.index.ensures in
    rw (← c.self.view_is) (single-iff nodes c.self.inside.members c.args.slot c.index.result.now c.count.result kept.filed (omega (arith, at, kept.range.nodes c.args.slot slot)) at c.count.ensures.value c.count.ensures.distinct)
