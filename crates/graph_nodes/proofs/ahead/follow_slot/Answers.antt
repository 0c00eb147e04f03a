use Rattle.std.proofs.Common.{◌≤◌, ◌*◌, ◌+◌, ◌/◌, ◌≡◌, arith}
use Rattle.graph_nodes.proofs.Followed.{IsEarly, followed-none, followed-as, followed-twice, early-split, ends-to}
use Rattle.graph_nodes.proofs.ahead.follow_slot.Goals as goal

pub loop-i-init : goal.loop-i-init
loop-i-init c = followed-none (IsEarly c.args.slot 0) c.args.nodes.now.arcs.now.cells c.args.nodes.now.node.now c.args.level.now c.args.l c.args.ahead.now (λ k j p arc low. omega (arith, p.0, p.1))

pub follow_arc-requires-clause-ends : goal.follow_arc-requires-clause-ends
follow_arc-requires-clause-ends c = ends-to c.args.nodes.now.arcs.now.cells c.args.nodes.now.node.now c.args.ahead.now.end c.loop-i.ahead.end c.loop-i.invariant.same.end c.requires.ends

pub loop-i-preserved : goal.loop-i-preserved
loop-i-preserved c = followed-twice (IsEarly c.args.slot c.loop-i.i) (λ k. k ≡ 8 * c.args.slot + c.loop-i.i) (IsEarly c.args.slot (c.loop-i.i + 1)) c.args.nodes.now.arcs.now.cells c.args.nodes.now.node.now c.args.level.now c.args.l c.args.ahead.now c.loop-i.ahead c.follow_arc.new.ahead (early-split c.args.slot c.loop-i.i) c.loop-i.invariant c.follow_arc.ensures

pub returns : goal.returns
returns c =
    let le : 8 ≤ c.loop-i.i = omega (arith, c.loop-i-test.false) in
    followed-as (IsEarly c.args.slot c.loop-i.i) (λ k. k / 8 ≡ c.args.slot) c.args.nodes.now.arcs.now.cells c.args.nodes.now.node.now c.args.level.now c.args.l c.args.ahead.now c.loop-i.ahead (λ k j e arc. (e, omega (arith, e, le))) c.loop-i.invariant
