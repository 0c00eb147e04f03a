use Rattle.std.proofs.Common.{◌≡◌, ◌<◌, length, refl, arith}
use Rattle.std.specs.Prelude.{slice_index}
use Rattle.graph_nodes.proofs.Found.{place-among}
use Rattle.graph_nodes.proofs.Joined.{many-twice}
use Rattle.graph_nodes.proofs.Scattered.{AreToPart, in-node, part-on, part-end, scatter-free, scatter-on, scatter-end}
use Rattle.graph_nodes.proofs.removing.scatter.Goals as goal

pub bounds-node-s : goal.bounds-node-s
bounds-node-s c =
    let lt : c.loop-s.s-index < length c.args.slots.now = omega (arith, c.loop-s-test.true) in
    let are : AreToPart c.args.node.now c.args.n c.args.slots.now c.args.members.now c.clear.new.self = record { slots_are = c.requires.slots; distinct = c.requires.distinct; filed = c.requires.filed; own = c.requires.own; clear = c.clear.ensures } in
    let low = (in-node c.args.node.now c.args.n (slice_index c.args.slots.now c.loop-s.s-index) c.args.slots.now c.args.members.now c.clear.new.self are (place-among c.args.slots.now c.loop-s.s-index lt)).0 in
    omega (arith, low, c.loop-s.invariant.0.size)

pub push-requires-clause-list : goal.push-requires-clause-list
push-requires-clause-list c =
    let lt : c.loop-s.s-index < length c.args.slots.now = omega (arith, c.loop-s-test.true) in
    let are : AreToPart c.args.node.now c.args.n c.args.slots.now c.args.members.now c.clear.new.self = record { slots_are = c.requires.slots; distinct = c.requires.distinct; filed = c.requires.filed; own = c.requires.own; clear = c.clear.ensures } in
    let low = (in-node c.args.node.now c.args.n (slice_index c.args.slots.now c.loop-s.s-index) c.args.slots.now c.args.members.now c.clear.new.self are (place-among c.args.slots.now c.loop-s.s-index lt)).0 in
    omega (arith, low, c.loop-s.invariant.1.same.lists, c.clear.ensures.same.lists, c.requires.lists)

pub push-requires-clause-item : goal.push-requires-clause-item
push-requires-clause-item c =
    let lt : c.loop-s.s-index < length c.args.slots.now = omega (arith, c.loop-s-test.true) in
    let are : AreToPart c.args.node.now c.args.n c.args.slots.now c.args.members.now c.clear.new.self = record { slots_are = c.requires.slots; distinct = c.requires.distinct; filed = c.requires.filed; own = c.requires.own; clear = c.clear.ensures } in
    let low = (in-node c.args.node.now c.args.n (slice_index c.args.slots.now c.loop-s.s-index) c.args.slots.now c.args.members.now c.clear.new.self are (place-among c.args.slots.now c.loop-s.s-index lt)).0 in
    omega (arith, low, c.loop-s.invariant.1.same.items, c.clear.ensures.same.items, c.requires.items)

pub push-requires-clause-free : goal.push-requires-clause-free
push-requires-clause-free c =
    let lt : c.loop-s.s-index < length c.args.slots.now = omega (arith, c.loop-s-test.true) in
    let are : AreToPart c.args.node.now c.args.n c.args.slots.now c.args.members.now c.clear.new.self = record { slots_are = c.requires.slots; distinct = c.requires.distinct; filed = c.requires.filed; own = c.requires.own; clear = c.clear.ensures } in
    scatter-free c.args.node.now c.args.n c.loop-s.s-index (slice_index c.args.slots.now c.loop-s.s-index) c.args.slots.now c.args.members.now c.clear.new.self c.loop-s.members are c.loop-s.invariant.1 lt refl

pub loop-s-preserved : goal.loop-s-preserved
loop-s-preserved c =
    let idx = c.loop-s.s-index in
    let slots = c.args.slots.now in
    let s = slice_index slots idx in
    let lt : idx < length slots = omega (arith, c.loop-s-test.true) in
    let are : AreToPart c.args.node.now c.args.n slots c.args.members.now c.clear.new.self = record { slots_are = c.requires.slots; distinct = c.requires.distinct; filed = c.requires.filed; own = c.requires.own; clear = c.clear.ensures } in
    let low = (in-node c.args.node.now c.args.n s slots c.args.members.now c.clear.new.self are (place-among slots idx lt)).0 in (
      part-on slots idx s c.args.node.now c.loop-s.node c.loop-s.invariant.0 refl lt (omega (arith, low, c.loop-s.invariant.0.size)),
      scatter-on c.args.node.now c.args.n idx s slots c.args.members.now c.clear.new.self c.loop-s.members c.push.new.self are c.loop-s.invariant.1 lt refl c.push.ensures,
    )

pub returns-clause-node : goal.returns-clause-node
returns-clause-node c =
    let end : c.loop-s.s-index ≡ length c.args.slots.now = omega (arith, c.loop-s-test.false, c.loop-s.auto.s-index-end) in
    part-end c.args.slots.now c.loop-s.s-index c.args.node.now c.loop-s.node end c.loop-s.invariant.0

pub returns-clause-filed : goal.returns-clause-filed
returns-clause-filed c =
    let end : c.loop-s.s-index ≡ length c.args.slots.now = omega (arith, c.loop-s-test.false, c.loop-s.auto.s-index-end) in
    let are : AreToPart c.args.node.now c.args.n c.args.slots.now c.args.members.now c.clear.new.self = record { slots_are = c.requires.slots; distinct = c.requires.distinct; filed = c.requires.filed; own = c.requires.own; clear = c.clear.ensures } in
    scatter-end c.args.node.now c.loop-s.node c.args.n c.loop-s.s-index c.args.slots.now c.args.members.now c.clear.new.self c.loop-s.members are c.loop-s.invariant.1 end (part-end c.args.slots.now c.loop-s.s-index c.args.node.now c.loop-s.node end c.loop-s.invariant.0)

pub returns-clause-same : goal.returns-clause-same
returns-clause-same c = many-twice c.args.members.now c.clear.new.self c.loop-s.members c.clear.ensures.same c.loop-s.invariant.1.same
