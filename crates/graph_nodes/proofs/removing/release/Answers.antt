use Rattle.std.proofs.Common.{◌≡◌, ◌<◌, length, arith}
use Rattle.std.specs.Prelude.{slice_index}
use Rattle.graph_nodes.proofs.Found.{place-among}
use Rattle.graph_nodes.proofs.Scattered.{release-end}
use Rattle.graph_nodes.proofs.removing.release.Goals as goal

pub bounds-held-s : goal.bounds-held-s
bounds-held-s c =
    let lt : c.loop-s.s-index < length c.args.slots.now = omega (arith, c.loop-s-test.true) in
    omega (arith, c.requires (slice_index c.args.slots.now c.loop-s.s-index) (place-among c.args.slots.now c.loop-s.s-index lt), c.loop-s.invariant.size)

pub returns : goal.returns
returns c =
    let end : c.loop-s.s-index ≡ length c.args.slots.now = omega (arith, c.loop-s-test.false, c.loop-s.auto.s-index-end) in
    release-end c.args.slots.now c.loop-s.s-index c.args.held.now c.loop-s.held end c.loop-s.invariant
