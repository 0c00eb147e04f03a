use Rattle.std.proofs.Common.{◌≡◌, ◌≤◌, ◌*◌, ◌+◌, ◌/◌, arith}
use Rattle.graph_nodes.proofs.Followed.{IsEarly, early-split}
use Rattle.graph_nodes.proofs.Linked.{linked-none, linked-twice, linked-as, linked-free, linkable-same}
use Rattle.graph_nodes.proofs.linking.link_slot.Goals as goal

pub loop-i-init : goal.loop-i-init
loop-i-init c = linked-none (IsEarly c.args.slot 0) c.args.nodes.now.arcs.now.cells c.args.nodes.now.node.now c.args.level.now c.args.near.now (λ m k p near. omega (arith, p.0, p.1))

pub link_cell-requires-clause-cell : goal.link_cell-requires-clause-cell
link_cell-requires-clause-cell c = omega (arith, c.requires.slot, c.requires.ready.sizes.cells, c.loop-i-test.true)

pub link_cell-requires-clause-ready : goal.link_cell-requires-clause-ready
link_cell-requires-clause-ready c = linkable-same c.args.nodes.now.arcs.now.cells c.args.nodes.now.node.now c.args.nodes.now.members.now c.args.near.now c.loop-i.near c.loop-i.invariant.same c.requires.ready

pub link_cell-requires-clause-free : goal.link_cell-requires-clause-free
link_cell-requires-clause-free c j arc =
    let cell = 8 * c.args.slot + c.loop-i.i in
    linked-free (IsEarly c.args.slot c.loop-i.i) c.args.nodes.now.arcs.now.cells c.args.nodes.now.node.now c.args.level.now c.args.near.now c.loop-i.near cell c.loop-i.invariant (λ p. omega (arith, p.1)) (c.requires.free cell j (omega (arith, c.loop-i-test.true)) arc)

pub loop-i-preserved : goal.loop-i-preserved
loop-i-preserved c =
    let slot = c.args.slot in
    let i = c.loop-i.i in
    linked-twice (IsEarly slot i) (λ k. k ≡ 8 * slot + i) (IsEarly slot (i + 1)) c.args.nodes.now.arcs.now.cells c.args.nodes.now.node.now c.args.level.now c.args.near.now c.loop-i.near c.link_cell.new.near (early-split slot i) (λ k p. (p.0, omega (arith, p.1))) (λ k q. (omega (arith, q, c.loop-i-test.true), omega (arith, q))) c.loop-i.invariant c.link_cell.ensures

pub returns : goal.returns
returns c =
    let le : 8 ≤ c.loop-i.i = omega (arith, c.loop-i-test.false) in
    linked-as (IsEarly c.args.slot c.loop-i.i) (λ k. k / 8 ≡ c.args.slot) c.args.nodes.now.arcs.now.cells c.args.nodes.now.node.now c.args.level.now c.args.near.now c.loop-i.near (λ k j e arc. (e, omega (arith, e, le))) (λ k p. p.0) c.loop-i.invariant
