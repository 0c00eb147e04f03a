use Rattle.std.proofs.Common.{◌∙◌, sym, subst, ℕ, List, ◌<◌, length, arith}
use Rattle.std.specs.Prelude.{IsTrue}
use Rattle.oper_core.specs.State.{is_among}
use Rattle.graph_nodes.specs.Named.{Graph}
use Rattle.graph_nodes.proofs.Ordered.{value-at}
use Rattle.graph_nodes.proofs.Asked.{members-iff}
use Rattle.graph_nodes.proofs.graph.SlotGraph.members.Goals as goal

pub copy_to-requires-clause-list : goal.copy_to-requires-clause-list
copy_to-requires-clause-list c =
    let range = c.self.invariant.0.range in
    let slot : c.args.slot < length c.self.inside.node.items = subst (λ (g : Graph). c.args.slot < length g.node) (sym c.self.view_is) c.requires.slot in
    let at = value-at c.self.inside.node.items c.args.slot c.index.result.now slot c.index.ensures in
    omega (arith, at, range.nodes c.args.slot slot, range.member_lists)

pub returns-clause-members : goal.returns-clause-members
returns-clause-members c =
    let kept = c.self.invariant.0 in
    let nodes = c.self.inside.node.items in
    let slot : c.args.slot < length nodes = subst (λ (g : Graph). c.args.slot < length g.node) (sym c.self.view_is) c.requires.slot in
    let at = value-at nodes c.args.slot c.index.result.now slot c.index.ensures in
    let low : c.index.result.now < length nodes = omega (arith, at, kept.range.nodes c.args.slot slot) in
    rw (← c.self.view_is) (λ i.
    let iff = members-iff nodes c.self.inside.members c.index.result.now i kept.filed low in (
      (λ t. iff.0 (subst (λ (xs : List ℕ). IsTrue (is_among i xs)) c.copy_to.ensures.items t) ∙ at),
      (λ e. subst (λ (xs : List ℕ). IsTrue (is_among i xs)) (sym c.copy_to.ensures.items) (iff.1 (e ∙ sym at))),
    ))
