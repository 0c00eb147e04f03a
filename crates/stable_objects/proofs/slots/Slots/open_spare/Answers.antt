use Rattle.std.proofs.Common.{ℕ, List, ◌∙◌, ap, subst}
use Rattle.disk_model.specs.Disk.{In, Runs, Same, Torn}
use Rattle.disk_model.specs.declared.machine.FileNo.TheVariants.{Objects}
use Rattle.formats.specs.Bytes.{byte_at, IsOpenAt}
use Rattle.formats.specs.declared.layout.Layout.{Layout}
use Rattle.stable_objects.specs.SlotGates.{slot_gate}
use Rattle.stable_objects.specs.SlotsView.{layout_of}
use Rattle.stable_objects.proofs.Bytes.{byte_written}
use Rattle.stable_objects.proofs.slots.Slots.open_spare.Goals as goal

pub returns-in_err-write_at-clause-runs : goal.returns-in_err-write_at-clause-runs
returns-in_err-write_at-clause-runs g c =
    subst (λ (at : ℕ). Runs (In Objects (Torn at 1)) Same (g.M.Machine.disk c.args.machine.now) (g.M.Machine.disk c.write_at.new.self))
    (c.gate_place-place.ensures ∙ ap (λ (l : Layout). slot_gate l c.spare-slot.result) c.layout.ensures.is ∙ ap (λ (k : ℕ). slot_gate (layout_of c.args.self.now) k) c.spare-slot.ensures)
    c.write_at.ensures.runs

pub returns-clause-runs : goal.returns-clause-runs
returns-clause-runs g c =
    subst (λ (at : ℕ). Runs (In Objects (Torn at 1)) Same (g.M.Machine.disk c.args.machine.now) (g.M.Machine.disk c.write_at.new.self))
    (c.gate_place-place.ensures ∙ ap (λ (l : Layout). slot_gate l c.spare-slot.result) c.layout.ensures.is ∙ ap (λ (k : ℕ). slot_gate (layout_of c.args.self.now) k) c.spare-slot.ensures)
    c.write_at.ensures.runs

pub returns-clause-opened : goal.returns-clause-opened
returns-clause-opened g c told =
    let old = g.M.Machine.disk c.args.machine.now in
    let new = g.M.Machine.disk c.write_at.new.self in
    let place = c.gate_place-place.result in
    let here = ap (λ (l : List ℕ). byte_at place l) (c.in_ok-write_at.ensures.written told).changed ∙ byte_written place 1 (old.reads Objects) in
    subst (λ (at : ℕ). IsOpenAt at (new.reads Objects))
    (c.gate_place-place.ensures ∙ ap (λ (l : Layout). slot_gate l c.spare-slot.result) c.layout.ensures.is ∙ ap (λ (k : ℕ). slot_gate (layout_of c.args.self.now) k) c.spare-slot.ensures)
    here
