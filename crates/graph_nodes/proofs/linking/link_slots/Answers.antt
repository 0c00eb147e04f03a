use Rattle.std.proofs.Common.{◌≡◌, sym, subst, ℕ, ◌<◌, ◌+◌, ◌/◌, length, refl, arith}
use Rattle.std.specs.Prelude.{IsTrue, slice_index}
use Rattle.oper_core.specs.State.{is_among}
use Rattle.graph_nodes.proofs.Found.{place-among}
use Rattle.graph_nodes.proofs.Followed.{IsOfEarly, of-early-split, of-early-in}
use Rattle.graph_nodes.proofs.Linked.{linked-none, linked-twice, linked-as, linked-free, linkable-same, not-of-early}
use Rattle.graph_nodes.proofs.linking.link_slots.Goals as goal

pub loop-s-init : goal.loop-s-init
loop-s-init c = linked-none (IsOfEarly c.args.slots.now 0) c.args.nodes.now.arcs.now.cells c.args.nodes.now.node.now c.args.level.now c.args.near.now (λ m k p near. omega (arith, p.1))

pub link_slot-requires-clause-slot : goal.link_slot-requires-clause-slot
link_slot-requires-clause-slot c =
    let lt : c.loop-s.s-index < length c.args.slots.now = omega (arith, c.loop-s-test.true) in
    c.requires.slots (slice_index c.args.slots.now c.loop-s.s-index) (place-among c.args.slots.now c.loop-s.s-index lt)

pub link_slot-requires-clause-ready : goal.link_slot-requires-clause-ready
link_slot-requires-clause-ready c = linkable-same c.args.nodes.now.arcs.now.cells c.args.nodes.now.node.now c.args.nodes.now.members.now c.args.near.now c.loop-s.near c.loop-s.invariant.same c.requires.ready

pub link_slot-requires-clause-free : goal.link_slot-requires-clause-free
link_slot-requires-clause-free c k j at arc =
    let slots = c.args.slots.now in
    let i = c.loop-s.s-index in
    let lt : i < length slots = omega (arith, c.loop-s-test.true) in
    let there : IsTrue (is_among (k / 8) slots) = subst (λ (s : ℕ). IsTrue (is_among s slots)) (sym at) (place-among slots i lt) in
    linked-free (IsOfEarly slots i) c.args.nodes.now.arcs.now.cells c.args.nodes.now.node.now c.args.level.now c.args.near.now c.loop-s.near k c.loop-s.invariant (not-of-early slots i k c.requires.distinct lt at) (c.requires.free k j there arc)

pub loop-s-preserved : goal.loop-s-preserved
loop-s-preserved c =
    let slots = c.args.slots.now in
    let i = c.loop-s.s-index in
    let s = slice_index slots i in
    linked-twice (IsOfEarly slots i) (λ k. k / 8 ≡ s) (IsOfEarly slots (i + 1)) c.args.nodes.now.arcs.now.cells c.args.nodes.now.node.now c.args.level.now c.args.near.now c.loop-s.near c.link_slot.new.near (λ k. of-early-split slots i s k refl) (λ k p. (p.0, omega (arith, p.1), p.2)) (λ k q. (i, omega arith, sym q)) c.loop-s.invariant c.link_slot.ensures

pub returns : goal.returns
returns c =
    let slots = c.args.slots.now in
    let end : c.loop-s.s-index ≡ length slots = omega (arith, c.loop-s-test.false, c.loop-s.auto.s-index-end) in
    linked-as (IsOfEarly slots c.loop-s.s-index) (λ k. IsTrue (is_among (k / 8) slots)) c.args.nodes.now.arcs.now.cells c.args.nodes.now.node.now c.args.level.now c.args.near.now c.loop-s.near (λ k j t arc. of-early-in slots c.loop-s.s-index k end t)
    (λ k p. subst (λ (s : ℕ). IsTrue (is_among s slots)) p.2 (place-among slots p.0 (omega (arith, p.1, end)))) c.loop-s.invariant
