use Rattle.std.proofs.Common.{length}
use Rattle.stable_objects.proofs.Closing.{filled_others, spare_written}
use Rattle.stable_objects.proofs.slots.Slots.fill_spare.Goals as goal

pub returns-in_err-write_slot-clause-runs : goal.returns-in_err-write_slot-clause-runs
returns-in_err-write_slot-clause-runs g c =
    spare_written _ c.args.self.now c.self.view_is c.self.invariant c.args.object c.spare-slot.result c.index.result.now c.gate_place-place.result c.layout.result c.requires.object c.spare-slot.ensures c.index.ensures c.layout.ensures.is c.gate_place-place.ensures
    c.if-index-ne0.false (length c.args.bytes.now) c.requires.short _ _ _ c.is_filled.ensures.kept c.write_slot.ensures.runs

pub returns-clause-runs : goal.returns-clause-runs
returns-clause-runs g c =
    spare_written _ c.args.self.now c.self.view_is c.self.invariant c.args.object c.spare-slot.result c.index.result.now c.gate_place-place.result c.layout.result c.requires.object c.spare-slot.ensures c.index.ensures c.layout.ensures.is c.gate_place-place.ensures
    c.if-index-ne0.false (length c.args.bytes.now) c.requires.short _ _ _ c.is_filled.ensures.kept c.write_slot.ensures.runs

pub returns-in_err-write_slot-clause-others : goal.returns-in_err-write_slot-clause-others
returns-in_err-write_slot-clause-others g c =
    filled_others _ c.args.self.now c.self.view_is c.self.invariant c.args.object c.spare-slot.result c.index.result.now c.gate_place-place.result c.layout.result c.requires.object c.spare-slot.ensures c.index.ensures c.layout.ensures.is c.gate_place-place.ensures
    (length c.args.bytes.now) c.requires.short _ _ _ c.is_filled.ensures.kept c.write_slot.ensures.runs

pub returns-clause-others : goal.returns-clause-others
returns-clause-others g c =
    filled_others _ c.args.self.now c.self.view_is c.self.invariant c.args.object c.spare-slot.result c.index.result.now c.gate_place-place.result c.layout.result c.requires.object c.spare-slot.ensures c.index.ensures c.layout.ensures.is c.gate_place-place.ensures
    (length c.args.bytes.now) c.requires.short _ _ _ c.is_filled.ensures.kept c.write_slot.ensures.runs
