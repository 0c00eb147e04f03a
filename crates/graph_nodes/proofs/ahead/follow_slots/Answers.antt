use Rattle.std.proofs.Common.{◌≡◌, ◌/◌, ◌+◌, ◌<◌, length, refl, arith}
use Rattle.std.specs.Prelude.{IsTrue, slice_index}
use Rattle.oper_core.specs.State.{is_among}
use Rattle.graph_nodes.proofs.Found.{place-among}
use Rattle.graph_nodes.proofs.Followed.{IsOfEarly, followed-none, followed-as, followed-twice, of-early-split, of-early-in, ends-to}
use Rattle.graph_nodes.proofs.ahead.follow_slots.Goals as goal

pub loop-s-init : goal.loop-s-init
loop-s-init c = followed-none (IsOfEarly c.args.slots.now 0) c.args.nodes.now.arcs.now.cells c.args.nodes.now.node.now c.args.level.now c.args.l c.args.ahead.now (λ k j p arc low. omega (arith, p.1))

pub follow_slot-requires-clause-cells : goal.follow_slot-requires-clause-cells
follow_slot-requires-clause-cells c =
    let lt : c.loop-s.s-index < length c.args.slots.now = omega (arith, c.loop-s-test.true) in
    omega (arith, c.requires.slots (slice_index c.args.slots.now c.loop-s.s-index) (place-among c.args.slots.now c.loop-s.s-index lt), c.requires.size)

pub follow_slot-requires-clause-ends : goal.follow_slot-requires-clause-ends
follow_slot-requires-clause-ends c = ends-to c.args.nodes.now.arcs.now.cells c.args.nodes.now.node.now c.args.ahead.now.end c.loop-s.ahead.end c.loop-s.invariant.same.end c.requires.ends

pub loop-s-preserved : goal.loop-s-preserved
loop-s-preserved c =
    let s = slice_index c.args.slots.now c.loop-s.s-index in
    followed-twice (IsOfEarly c.args.slots.now c.loop-s.s-index) (λ k. k / 8 ≡ s) (IsOfEarly c.args.slots.now (c.loop-s.s-index + 1)) c.args.nodes.now.arcs.now.cells c.args.nodes.now.node.now c.args.level.now c.args.l c.args.ahead.now c.loop-s.ahead c.follow_slot.new.ahead (λ k. of-early-split c.args.slots.now c.loop-s.s-index s k refl) c.loop-s.invariant c.follow_slot.ensures

pub returns : goal.returns
returns c =
    let end : c.loop-s.s-index ≡ length c.args.slots.now = omega (arith, c.loop-s-test.false, c.loop-s.auto.s-index-end) in
    followed-as (IsOfEarly c.args.slots.now c.loop-s.s-index) (λ k. IsTrue (is_among (k / 8) c.args.slots.now)) c.args.nodes.now.arcs.now.cells c.args.nodes.now.node.now c.args.level.now c.args.l c.args.ahead.now c.loop-s.ahead (λ k j t arc. of-early-in c.args.slots.now c.loop-s.s-index k end t) c.loop-s.invariant
