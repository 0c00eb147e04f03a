use Rattle.std.proofs.Common.{◌∙◌, ◌≤◌, ◌*◌, ap, sym, subst, arith}
use Rattle.formats.specs.declared.layout.Layout.{Layout}
use Rattle.stable_objects.specs.SlotGates.{slot_gate}
use Rattle.stable_objects.specs.SlotsView.{layout_of}
use Rattle.stable_objects.proofs.Put.{any_run, any_join}
use Rattle.stable_objects.proofs.Places.{place_small}
use Rattle.stable_objects.proofs.Replaced.{slot_room, closing_moments, putting_moments, replaced_by, renewed_by}
use Rattle.stable_objects.proofs.slots.Slots.replace.Goals as goal

pub index_mut-requires : goal.index_mut-requires
index_mut-requires g c =
    let room = slot_room _ c.args.self.now c.args.object c.spare-slot.result c.self.view_is c.self.invariant c.requires.object c.spare-slot.ensures in
    omega (arith, room, c.self.inside.heads.ok.0)

pub index_mut-requires-2 : goal.index_mut-requires-2
index_mut-requires-2 g c =
    let room = slot_room _ c.args.self.now c.args.object c.spare-slot.result c.self.view_is c.self.invariant c.requires.object c.spare-slot.ensures in
    omega (arith, room, c.self.inside.heads.ok.0)

pub put-requires-clause-place : goal.put-requires-clause-place
put-requires-clause-place g c =
    let room = slot_room _ c.args.self.now c.args.object c.spare-slot.result c.self.view_is c.self.invariant c.requires.object c.spare-slot.ensures in
    let count = subst (λ (l : Layout). c.spare-slot.result ≤ 2 * l.params.objects) (ap layout_of c.self.view_is ∙ sym c.layout.ensures.is) (omega (arith, room, c.self.invariant.count)) in
    let small = place_small c.layout.result c.spare-slot.result c.layout.ensures.known count in
    omega (arith, small, c.gate_place-place.ensures)

pub returns-in_err-close_slot-clause-runs : goal.returns-in_err-close_slot-clause-runs
returns-in_err-close_slot-clause-runs g c = any_run _ _ _ c.close_slot.ensures.runs

pub returns-in_err-close_slot-clause-any_moment : goal.returns-in_err-close_slot-clause-any_moment
returns-in_err-close_slot-clause-any_moment g c =
    closing_moments _ _ c.args.object c.spare-slot.result c.gate_place-place.result c.index.result.now c.args.lsn c.args.bytes.now c.self.view_is c.self.invariant
    c.requires.object c.requires.later c.requires.is_lsn c.requires.short c.spare-slot.ensures (c.gate_place-place.ensures ∙ ap (λ (l : Layout). slot_gate l c.spare-slot.result) (c.layout.ensures.is ∙ ap layout_of (sym c.self.view_is))) c.index.ensures
    _ _ c.close_slot.ensures.runs c.close_slot.ensures.idle

pub returns-in_err-put-clause-runs : goal.returns-in_err-put-clause-runs
returns-in_err-put-clause-runs g c = any_join _ _ _ _ _ c.close_slot.ensures.runs c.put.ensures.runs

pub returns-in_err-put-clause-any_moment : goal.returns-in_err-put-clause-any_moment
returns-in_err-put-clause-any_moment g c =
    putting_moments _ _ c.args.object c.spare-slot.result c.gate_place-place.result c.index.result.now c.args.lsn c.args.bytes.now c.self.view_is c.self.invariant
    c.requires.object c.requires.later c.requires.is_lsn c.requires.short c.spare-slot.ensures (c.gate_place-place.ensures ∙ ap (λ (l : Layout). slot_gate l c.spare-slot.result) (c.layout.ensures.is ∙ ap layout_of (sym c.self.view_is))) c.index.ensures
    _ _ c.close_slot.ensures.runs c.close_slot.ensures.idle _ c.in_ok-close_slot.ensures.closed c.in_ok-close_slot.ensures.settled c.put.ensures.any_moment

pub returns-clause-runs : goal.returns-clause-runs
returns-clause-runs g c = any_join _ _ _ _ _ c.close_slot.ensures.runs c.put.ensures.runs

pub returns-clause-any_moment : goal.returns-clause-any_moment
returns-clause-any_moment g c =
    putting_moments _ _ c.args.object c.spare-slot.result c.gate_place-place.result c.index.result.now c.args.lsn c.args.bytes.now c.self.view_is c.self.invariant
    c.requires.object c.requires.later c.requires.is_lsn c.requires.short c.spare-slot.ensures (c.gate_place-place.ensures ∙ ap (λ (l : Layout). slot_gate l c.spare-slot.result) (c.layout.ensures.is ∙ ap layout_of (sym c.self.view_is))) c.index.ensures
    _ _ c.close_slot.ensures.runs c.close_slot.ensures.idle _ c.in_ok-close_slot.ensures.closed c.in_ok-close_slot.ensures.settled c.put.ensures.any_moment

pub returns-clause-replaced : goal.returns-clause-replaced
returns-clause-replaced g c told of =
    replaced_by _ _ c.args.object c.spare-slot.result c.gate_place-place.result c.index.result.now c.args.lsn c.args.bytes.now c.self.view_is c.self.invariant
    c.requires.object c.requires.later c.requires.is_lsn c.requires.short c.spare-slot.ensures (c.gate_place-place.ensures ∙ ap (λ (l : Layout). slot_gate l c.spare-slot.result) (c.layout.ensures.is ∙ ap layout_of (sym c.self.view_is))) c.index.ensures
    _ _ c.close_slot.ensures.runs c.close_slot.ensures.idle (g.M.Machine.disk c.put.new.machine) told of (c.in_ok-put.ensures.put (c.close_slot.ensures.runs.time.files_told.0 told))

pub returns-clause-renewed : goal.returns-clause-renewed
returns-clause-renewed g c =
    renewed_by _ _ c.args.object c.spare-slot.result c.gate_place-place.result c.index.result.now c.args.lsn c.args.bytes.now c.self.view_is c.self.invariant
    c.requires.object c.requires.later c.requires.is_lsn c.requires.short c.spare-slot.ensures (c.gate_place-place.ensures ∙ ap (λ (l : Layout). slot_gate l c.spare-slot.result) (c.layout.ensures.is ∙ ap layout_of (sym c.self.view_is))) c.index.ensures
    _ _ c.close_slot.ensures.runs c.close_slot.ensures.idle
