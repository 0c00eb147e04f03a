use Rattle.std.proofs.Common.{◌≡◌, ◌∙◌, ◌<◌, length, refl, arith}
use Rattle.std.specs.Prelude.{slice_index}
use Rattle.graph_nodes.proofs.Found.{place-among}
use Rattle.graph_nodes.proofs.Cleared.{slot-none, slot-on, slot-all}
use Rattle.graph_nodes.proofs.Told.{same-start, same-on}
use Rattle.graph_nodes.proofs.clearing.clear_slots.Goals as goal

pub loop-s-init : goal.loop-s-init
loop-s-init c = (slot-none c.args.slots.now c.args.arcs.now.cells c.args.into.now, c.requires.order, same-start c.args.names.now, refl)

pub clear_slot-requires-clause-slot : goal.clear_slot-requires-clause-slot
clear_slot-requires-clause-slot c =
    let lt : c.loop-s.s-index < length c.args.slots.now = omega (arith, c.loop-s-test.true) in
    c.requires.slots (slice_index c.args.slots.now c.loop-s.s-index) (place-among c.args.slots.now c.loop-s.s-index lt)

pub loop-s-preserved : goal.loop-s-preserved
loop-s-preserved c = (
  slot-on c.args.slots.now c.loop-s.s-index (slice_index c.args.slots.now c.loop-s.s-index) c.args.arcs.now.cells c.loop-s.arcs.cells c.clear_slot.new.arcs.cells c.args.into.now c.loop-s.into c.clear_slot.new.into refl c.loop-s.invariant.0 c.clear_slot.ensures.cleared,
  c.clear_slot.ensures.order,
  same-on c.args.names.now c.loop-s.names c.clear_slot.new.names c.loop-s.invariant.2 c.clear_slot.ensures.same,
  c.clear_slot.ensures.room ∙ c.loop-s.invariant.3,
)

pub returns-clause-cleared : goal.returns-clause-cleared
returns-clause-cleared c =
    let end : c.loop-s.s-index ≡ length c.args.slots.now = omega (arith, c.loop-s-test.false, c.loop-s.auto.s-index-end) in
    slot-all c.args.slots.now c.loop-s.s-index c.args.arcs.now.cells c.loop-s.arcs.cells c.args.into.now c.loop-s.into end c.loop-s.invariant.0
