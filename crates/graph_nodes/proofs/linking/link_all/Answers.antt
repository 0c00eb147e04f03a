use Rattle.std.proofs.Common.{◌≡◌, ◌∙◌, sym, subst, ℕ, ◌<◌, ◌+◌, ◌/◌, length, arith}
use Rattle.std.specs.Prelude.{IsTrue, slice_index}
use Rattle.oper_core.specs.State.{is_among}
use Rattle.graph_nodes.specs.Arcs.{node_at}
use Rattle.graph_nodes.proofs.Found.{place-among}
use Rattle.graph_nodes.proofs.Linked.{IsOfFirst, of-first-split, of-first-in, not-of-first, linked-none, linked-twice, linked-as, linked-free, linkable-same}
use Rattle.graph_nodes.proofs.linking.link_all.Goals as goal

pub loop-i-init : goal.loop-i-init
loop-i-init c = (linked-none (IsOfFirst c.args.nodes.now.node.now c.args.ahead.now.members 0) c.args.nodes.now.arcs.now.cells c.args.nodes.now.node.now c.args.level.now c.args.near.now (λ m k p near. omega (arith, p.1)), omega arith)

pub link_node-requires-clause-n : goal.link_node-requires-clause-n
link_node-requires-clause-n c = omega (arith, c.get.ensures.below, c.requires.ahead)

pub link_node-requires-clause-ready : goal.link_node-requires-clause-ready
link_node-requires-clause-ready c = linkable-same c.args.nodes.now.arcs.now.cells c.args.nodes.now.node.now c.args.nodes.now.members.now c.args.near.now c.loop-i.near c.loop-i.invariant.0.same c.requires.ready

pub link_node-requires-clause-room : goal.link_node-requires-clause-room
link_node-requires-clause-room c = omega (arith, c.requires.room, c.loop-i.invariant.1)

pub link_node-requires-clause-free : goal.link_node-requires-clause-free
link_node-requires-clause-free c k j at arc =
    let node = c.args.nodes.now.node.now in
    let ns = c.args.ahead.now.members in
    let i = c.loop-i.i in
    let lt : i < length ns = omega (arith, c.loop-i-test.true, c.len-i-end.ensures.count) in
    let here : node_at node (k / 8) ≡ slice_index ns i = at ∙ c.get.ensures.value in
    let there : IsTrue (is_among (node_at node (k / 8)) ns) = subst (λ (m : ℕ). IsTrue (is_among m ns)) (sym here) (place-among ns i lt) in
    linked-free (IsOfFirst node ns i) c.args.nodes.now.arcs.now.cells c.args.nodes.now.node.now c.args.level.now c.args.near.now c.loop-i.near k c.loop-i.invariant.0 (not-of-first node ns i k c.len-i-end.ensures.distinct lt here) (c.requires.free k j there arc)

pub loop-i-preserved : goal.loop-i-preserved
loop-i-preserved c =
    let node = c.args.nodes.now.node.now in
    let ns = c.args.ahead.now.members in
    let i = c.loop-i.i in
    let n = c.get.result in (
      linked-twice (IsOfFirst node ns i) (λ k. node_at node (k / 8) ≡ n) (IsOfFirst node ns (i + 1)) c.args.nodes.now.arcs.now.cells c.args.nodes.now.node.now c.args.level.now c.args.near.now c.loop-i.near c.link_node.new.near (λ k. of-first-split node ns i n k c.get.ensures.value) (λ k p. (p.0, omega (arith, p.1), p.2)) (λ k q. (i, omega arith, sym c.get.ensures.value ∙ sym q)) c.loop-i.invariant.0 c.link_node.ensures.linked,
      omega (arith, c.link_node.ensures.capacity, c.loop-i.invariant.1),
    )

pub returns-clause-linked : goal.returns-clause-linked
returns-clause-linked c =
    let node = c.args.nodes.now.node.now in
    let ns = c.args.ahead.now.members in
    let end : c.loop-i.i ≡ length ns = omega (arith, c.loop-i-test.false, c.loop-i.auto.i-end, c.len-i-end.ensures.count) in
    linked-as (IsOfFirst node ns c.loop-i.i) (λ k. IsTrue (is_among (node_at node (k / 8)) ns)) c.args.nodes.now.arcs.now.cells c.args.nodes.now.node.now c.args.level.now c.args.near.now c.loop-i.near (λ k j t arc. of-first-in node ns c.loop-i.i k end t)
    (λ k p. subst (λ (m : ℕ). IsTrue (is_among m ns)) p.2 (place-among ns p.0 (omega (arith, p.1, end)))) c.loop-i.invariant.0
