use Rattle.std.proofs.Common.{◌≡◌, ◌<◌, length, arith}
use Rattle.std.specs.Prelude.{slice_index}
use Rattle.graph_nodes.proofs.Found.{place-among}
use Rattle.graph_nodes.proofs.Joined.{relabel-end}
use Rattle.graph_nodes.proofs.merging.relabel.Goals as goal

pub bounds-node-m : goal.bounds-node-m
bounds-node-m c =
    let lt : c.loop-m.m-index < length c.args.slots.now = omega (arith, c.loop-m-test.true) in
    omega (arith, c.requires (slice_index c.args.slots.now c.loop-m.m-index) (place-among c.args.slots.now c.loop-m.m-index lt), c.loop-m.invariant.size)

pub returns : goal.returns
returns c =
    let end : c.loop-m.m-index ≡ length c.args.slots.now = omega (arith, c.loop-m-test.false, c.loop-m.auto.m-index-end) in
    relabel-end c.args.slots.now c.args.one c.loop-m.m-index c.args.node.now c.loop-m.node end c.loop-m.invariant
