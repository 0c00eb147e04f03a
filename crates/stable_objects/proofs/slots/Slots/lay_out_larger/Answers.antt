use Rattle.std.proofs.Common.{◌≡◌, ℕ, List, ap, subst, arith}
use Rattle.disk_model.specs.Disk.{HoldsAt}
use Rattle.disk_model.specs.declared.machine.FileNo.TheVariants.{Objects}
use Rattle.formats.specs.Objects.{bounds_of, second_form, number_fields}
use Rattle.formats.specs.declared.form.Form.{Form}
use Rattle.formats.specs.declared.layout.Layout.{Layout}
use Rattle.stable_objects.specs.Upgrades.Larger.{end_of_slots}
use Rattle.stable_objects.specs.Making.{KeepsFront, HasClosedSlots}
use Rattle.stable_objects.proofs.Upgraded.Behind.{larger_laid}
use Rattle.stable_objects.proofs.Made.{front_less, run_front}
use Rattle.stable_objects.proofs.slots.Slots.lay_out_larger.Goals as goal

pub returns-in_err-close_slots-clause-runs : goal.returns-in_err-close_slots-clause-runs
returns-in_err-close_slots-clause-runs g c =
    front_less _ _ c.larger_layout.result.first (end_of_slots c.args.self.now) (omega (arith, ap (λ (l : Layout). l.first) c.larger_layout.ensures.is)) c.close_slots.ensures.runs

pub returns-in_err-write_at-clause-runs : goal.returns-in_err-write_at-clause-runs
returns-in_err-write_at-clause-runs g c =
    run_front _ _ _ (end_of_slots c.args.self.now) c.larger_form-numbers.result.numbers _
    (omega (arith, ap (λ (f : Form). f.numbers) c.larger_form-numbers.ensures.is))
    (front_less _ _ c.larger_layout.result.first (end_of_slots c.args.self.now) (omega (arith, ap (λ (l : Layout). l.first) c.larger_layout.ensures.is)) c.close_slots.ensures.runs) c.write_at.ensures.runs

pub returns-clause-runs : goal.returns-clause-runs
returns-clause-runs g c =
    run_front _ _ _ (end_of_slots c.args.self.now) c.larger_form-numbers.result.numbers _
    (omega (arith, ap (λ (f : Form). f.numbers) c.larger_form-numbers.ensures.is))
    (front_less _ _ c.larger_layout.result.first (end_of_slots c.args.self.now) (omega (arith, ap (λ (l : Layout). l.first) c.larger_layout.ensures.is)) c.close_slots.ensures.runs) c.write_at.ensures.runs

pub returns-clause-laid_out : goal.returns-clause-laid_out
returns-clause-laid_out g c told are =
    let slots = c.args.self.now in
    let q = c.args.params in
    let old = g.M.Machine.disk c.args.machine.now in
    let mid = g.M.Machine.disk c.close_slots.new.machine in
    let new = g.M.Machine.disk c.write_at.new.self in
    let told_mid = c.close_slots.ensures.runs.time.files_told.0 told in
    let places : c.larger_form-numbers.result.numbers ≡ (second_form (bounds_of slots.params)).numbers = ap (λ (f : Form). f.numbers) c.larger_form-numbers.ensures.is in
    let keeps = subst (λ (l : Layout). KeepsFront l.first (old.reads Objects) (mid.reads Objects)) c.larger_layout.ensures.is (c.close_slots.ensures.runs.reads told).changed in
    let closed = subst (λ (l : Layout). HasClosedSlots l (mid.reads Objects)) c.larger_layout.ensures.is (c.in_ok-close_slots.ensures.closed told) in
    let written = subst (λ (b : List ℕ). HoldsAt c.larger_form-numbers.result.numbers b (mid.reads Objects) (new.reads Objects)) c.numbers_of.ensures (c.in_ok-write_at.ensures.written told_mid).changed in
    larger_laid slots q (old.reads Objects) (mid.reads Objects) (new.reads Objects) are c.requires.first c.requires.larger c.requires.in_range keeps closed
    (subst (λ (at : ℕ). HoldsAt at (number_fields q) (mid.reads Objects) (new.reads Objects)) places written)
