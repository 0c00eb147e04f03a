use Rattle.std.proofs.Common.{◌≡◌, ◌≤◌, ◌+◌, ◌*◌, ◌∙◌, ℕ, List, sym, ap, subst, position}
use Rattle.std.specs.Prelude.{◌&&◌, nat_lt, nat_le}
use Rattle.formats.specs.declared.layout.Layout.{Layout}
use Rattle.stable_objects.specs.SlotGates.{slot_gate}
use Rattle.stable_objects.specs.SlotsView.{SlotsView, IsLate, layout_of, place_of}
use Rattle.stable_objects.proofs.Late.{none_found, found_first, none_anyway}
use Rattle.stable_objects.proofs.slots.Slots.first_at.Goals as goal

pub returns-in_err-slot-clause-none : goal.returns-in_err-slot-clause-none
returns-in_err-slot-clause-none c =
    let slots : SlotsView = record { params = c.self.inside.params; first = c.self.inside.first; heads = c.self.inside.heads.items; lengths = c.self.inside.lengths.items } in
    let same = ap (λ (l : List ℕ). position (λ lsn. nat_lt 0 lsn && nat_le c.args.next lsn) l) c.deref.ensures.value in
    none_anyway c.from_residual.result _ (subst (λ (v : SlotsView). (x s : ℕ) → IsLate v c.args.next x s → ⊥) c.self.view_is
    (none_found slots c.args.next (sym same ∙ sym c.first_late.ensures ∙ c.in_err-slot.was)))

pub returns-clause-some : goal.returns-clause-some
returns-clause-some c =
    let slots : SlotsView = record { params = c.self.inside.params; first = c.self.inside.first; heads = c.self.inside.heads.items; lengths = c.self.inside.lengths.items } in
    let same = ap (λ (l : List ℕ). position (λ lsn. nat_lt 0 lsn && nat_le c.args.next lsn) l) c.deref.ensures.value in
    subst (λ (v : SlotsView). (x : ℕ) × (s : ℕ) × IsLate v c.args.next x s × (c.gate_place.result + 1 ≡ place_of v x s + 1) × ((y t : ℕ) → IsLate v c.args.next y t → 2 * x + s ≤ 2 * y + t)) c.self.view_is
    (found_first slots c.args.next c.in_ok-slot.slot c.gate_place.result c.self.invariant (sym same ∙ sym c.first_late.ensures ∙ c.in_ok-slot.was)
    (c.gate_place.ensures ∙ ap (λ (l : Layout). slot_gate l c.in_ok-slot.slot) (c.layout.ensures.is ∙ ap layout_of (sym c.self.view_is))))
