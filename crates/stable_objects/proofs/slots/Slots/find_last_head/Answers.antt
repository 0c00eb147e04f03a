use Rattle.std.proofs.Common.{◌≡◌, ◌+◌, ◌*◌, ◌-◌, ℕ, get_or, refl, sym, ◌∙◌, ap, arith}
use Rattle.disk_model.specs.Moments.{told_agrees}
use Rattle.disk_model.specs.declared.machine.FileNo.TheVariants.{Objects}
use Rattle.formats.specs.declared.layout.Layout.{Layout}
use Rattle.stable_objects.specs.SlotGates.{slot_gate}
use Rattle.stable_objects.specs.SlotsView.{SlotsView}
use Rattle.std.proofs.lemmas.List.{get_or_default}
use Rattle.stable_objects.proofs.Upgraded.Uncut.{closed_last, cut_head, last_gate, long_enough}
use Rattle.stable_objects.proofs.slots.Slots.find_last_head.Goals as goal

pub returns-then-index-eq0-clause-whole : goal.returns-then-index-eq0-clause-whole
returns-then-index-eq0-clause-whole g c told are =
    let slots = c.args.self.now in
    let last = c.len-last.result - 1 in
    let view = c.self.view_is in
    let is_last : last + 1 ≡ 2 * slots.params.objects = omega (arith, c.len-last.ensures, c.self.inside.heads.ok.0, c.self.invariant.count, c.self.invariant.is.in_range.some, ap (λ (v : SlotsView). v.params.objects) view) in
    let found = c.index.ensures ∙ get_or_default c.self.inside.heads.items last c.index.result.now 0 (omega (arith, is_last, c.self.invariant.count, ap (λ (v : SlotsView). v.params.objects) view)) ∙ ap (λ (v : SlotsView). get_or v.heads last 0) view in
    closed_last slots ((g.M.Machine.disk c.args.machine.now).reads Objects) are last is_last (sym found ∙ c.if-index-eq0.true)

pub returns-then-branch-place-clause-cause : goal.returns-then-branch-place-clause-cause
returns-then-branch-place-clause-cause g c = rw c.damaged_at.ensures (λ told are.
    let slots = c.args.self.now in
    let old = g.M.Machine.disk c.args.machine.now in
    let last = c.len-last.result - 1 in
    let view = c.self.view_is in
    let is_last : last + 1 ≡ 2 * slots.params.objects = omega (arith, c.len-last.ensures, c.self.inside.heads.ok.0, c.self.invariant.count, c.self.invariant.is.in_range.some, ap (λ (v : SlotsView). v.params.objects) view) in
    let found = c.index.ensures ∙ get_or_default c.self.inside.heads.items last c.index.result.now 0 (omega (arith, is_last, c.self.invariant.count, ap (λ (v : SlotsView). v.params.objects) view)) ∙ ap (λ (v : SlotsView). get_or v.heads last 0) view in
    let at = c.gate_place-place.ensures ∙ ap (λ (l : Layout). slot_gate l last) c.layout.ensures.is in
    record {
      cut = cut_head slots (old.reads Objects) are last is_last c.gate_place-place.result c.in_ok-size.field-0 at (c.in_ok-size.ensures.size old.reads (told_agrees c.size.ensures.kept told)) (λ none. c.if-index-eq0.false (found ∙ none)) c.if-branch-place.true;
      file_is = refl;
      place_is = ap (λ (n : ℕ). n + 9) (at ∙ last_gate slots last is_last);
    })

pub returns-clause-whole : goal.returns-clause-whole
returns-clause-whole g c told are =
    let slots = c.args.self.now in
    let old = g.M.Machine.disk c.args.machine.now in
    let last = c.len-last.result - 1 in
    let is_last : last + 1 ≡ 2 * slots.params.objects = omega (arith, c.len-last.ensures, c.self.inside.heads.ok.0, c.self.invariant.count, c.self.invariant.is.in_range.some, ap (λ (v : SlotsView). v.params.objects) c.self.view_is) in
    long_enough slots (old.reads Objects) are last is_last c.gate_place-place.result c.in_ok-size.field-0 (c.gate_place-place.ensures ∙ ap (λ (l : Layout). slot_gate l last) c.layout.ensures.is)
    (c.in_ok-size.ensures.size old.reads (told_agrees c.size.ensures.kept told)) c.if-branch-place.false
