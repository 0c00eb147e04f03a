use Rattle.std.proofs.Common.{◌≡◌, ◌∙◌, ℕ, ap, refl, sym}
use Rattle.std.proofs.lemmas.Result.{err_from_is_err_and}
use Rattle.disk_model.specs.declared.machine.FileNo.TheVariants.{Objects}
use Rattle.formats.specs.declared.layout.Layout.{Layout}
use Rattle.stable_objects.specs.SlotGates.{slot_gate}
use Rattle.stable_objects.specs.SlotsView.{SlotsView, layout_of, place_of, holder_in}
use Rattle.stable_objects.proofs.ValueBytes.{held_value, held_fails, empty_value}
use Rattle.stable_objects.proofs.slots.Slots.read.Goals as goal

pub returns-in_err-read_value-clause-whole : goal.returns-in_err-read_value-clause-whole
returns-in_err-read_value-clause-whole g c files agree are =
    let file = files Objects in
    let slots = c.args.self.now in
    let x = c.args.object in
    let cap = ap (λ (v : SlotsView). v.params.cap) c.self.view_is in
    let here : c.gate_place-place.result ≡ place_of slots x (holder_in slots x) =
    c.gate_place-place.ensures ∙ ap (λ (l : Layout). slot_gate l c.holder.result) c.layout.ensures.is ∙ ap (λ (s : ℕ). slot_gate (layout_of slots) s) c.holder.ensures in
    let e = err_from_is_err_and c.from_residual.result c.from_residual.ensures.1 in
    rw (e.1, e.2) (held_fails slots file x c.gate_place-place.result are c.requires (λ none. c.if-lsn-eq0.false (c.lsn-lsn.ensures ∙ none)) here _ (g.M.Machine.disk c.read_value.new.machine).agrees files c.self.inside.params.cap _ refl agree cap c.in_err-read_value.ensures.cause)

pub returns-clause-value : goal.returns-clause-value
returns-clause-value g c files agree are =
    let file = files Objects in
    let slots = c.args.self.now in
    let x = c.args.object in
    let here : c.gate_place-place.result ≡ place_of slots x (holder_in slots x) =
    c.gate_place-place.ensures ∙ ap (λ (l : Layout). slot_gate l c.holder.result) c.layout.ensures.is ∙ ap (λ (s : ℕ). slot_gate (layout_of slots) s) c.holder.ensures in
    held_value slots file x c.gate_place-place.result are c.requires (λ none. c.if-lsn-eq0.false (c.lsn-lsn.ensures ∙ none)) here c.read_value.new.into.items (c.in_ok-read_value.ensures.value files agree)

pub returns-then-lsn-eq0-clause-value : goal.returns-then-lsn-eq0-clause-value
returns-then-lsn-eq0-clause-value g c files agree are = c.clear.ensures.items ∙ sym (empty_value c.args.self.now (files Objects) c.args.object are c.requires (sym c.lsn-lsn.ensures ∙ c.if-lsn-eq0.true))
