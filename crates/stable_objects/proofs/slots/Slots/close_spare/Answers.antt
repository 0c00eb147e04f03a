use Rattle.stable_objects.specs.SpareLaws.{closing_none}
use Rattle.stable_objects.specs.Spares.{IsSpareGate}
use Rattle.stable_objects.proofs.Closing.{are_inside, closing_inside, gate_written, spares_none}
use Rattle.stable_objects.proofs.slots.Slots.close_spare.Goals as goal

pub returns-then-index-eq0-clause-runs : goal.returns-then-index-eq0-clause-runs
returns-then-index-eq0-clause-runs g c = spares_none c.args.self.now (IsSpareGate c.args.self.now) (g.M.Machine.disk c.args.machine.now) (g.met.M.Machine.lawful c.args.machine.now)

pub returns-then-index-eq0-clause-slots : goal.returns-then-index-eq0-clause-slots
returns-then-index-eq0-clause-slots g c = closing_none c.args.self.now

pub returns-in_err-write_at-clause-runs : goal.returns-in_err-write_at-clause-runs
returns-in_err-write_at-clause-runs g c =
    gate_written _ c.args.self.now c.self.view_is c.self.invariant c.args.object c.spare-slot.result c.index.result.now c.gate_place-place.result c.layout.result c.requires c.spare-slot.ensures c.index.ensures c.layout.ensures.is c.gate_place-place.ensures
    c.if-index-eq0.false _ _ c.write_at.ensures.runs

pub returns-clause-runs : goal.returns-clause-runs
returns-clause-runs g c =
    gate_written _ c.args.self.now c.self.view_is c.self.invariant c.args.object c.spare-slot.result c.index.result.now c.gate_place-place.result c.layout.result c.requires c.spare-slot.ensures c.index.ensures c.layout.ensures.is c.gate_place-place.ensures
    c.if-index-eq0.false _ _ c.write_at.ensures.runs

pub returns-clause-slots : goal.returns-clause-slots
returns-clause-slots g c =
    closing_inside _ c.args.self.now c.self.view_is c.self.invariant c.args.object c.spare-slot.result c.index.result.now c.gate_place-place.result c.layout.result c.requires c.spare-slot.ensures c.index.ensures c.layout.ensures.is c.gate_place-place.ensures

pub returns-clause-are : goal.returns-clause-are
returns-clause-are g c told of =
    are_inside _ c.args.self.now c.self.view_is c.self.invariant c.args.object c.spare-slot.result c.index.result.now c.gate_place-place.result c.layout.result c.requires c.spare-slot.ensures c.index.ensures c.layout.ensures.is c.gate_place-place.ensures
    _ _ of (c.in_ok-write_at.ensures.written told).changed
