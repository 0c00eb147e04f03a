use Rattle.std.proofs.Common.{◌∙◌, sym, refl, ap, arith, subst}
use Rattle.formats.specs.FirstFault.{stops, goes_on}
use Rattle.formats.specs.declared.form.Form.{Form}
use Rattle.stable_objects.specs.Layouts.{IsForm}
use Rattle.stable_objects.specs.LayoutLaws.{first_in, second_in, first_is_form, second_is_form}
use Rattle.stable_objects.proofs.Found.{number_slice, differ, agree, second_here}
use Rattle.stable_objects.proofs.loading.parse_header.Goals as goal

pub returns-then-ne-clause-cause : goal.returns-then-ne-clause-cause
returns-then-ne-clause-cause c = rw c.damaged_at.ensures (refl, stops refl (differ _ _ c.ne.result c.ne.ensures c.if-ne.true))

pub returns-then-head-ne-SECOND_VERSION-clause-ok : goal.returns-then-head-ne-SECOND_VERSION-clause-ok
returns-then-head-ne-SECOND_VERSION-clause-ok c = record {
  magic = agree _ _ c.ne.result c.ne.ensures c.if-ne.false;
  is = c.first_form.ensures ∙ sym (first_in c.args.head.now c.if-head-ne-SECOND_VERSION.true);
  known = subst IsForm (sym c.first_form.ensures) first_is_form;
}

pub returns-clause-ok : goal.returns-clause-ok
returns-clause-ok c =
    let head = c.args.head.now in
    let objects = c.read_u32-objects.ensures ∙ number_slice head 17 9 c.requires.long (omega arith) in
    let cap = c.read_u32-cap.ensures ∙ number_slice head 17 13 c.requires.long (omega arith) in
    record {
      magic = agree _ _ c.ne.result c.ne.ensures c.if-ne.false;
      is = c.second_form.ensures ∙ second_here head c.read_u32-objects.result c.read_u32-cap.result c.if-head-ne-SECOND_VERSION.false objects cap;
      known = subst IsForm (sym c.second_form.ensures) (second_is_form _ (omega (arith, c.if-objects.false)) (omega (arith, c.if-cap.false)));
    }

pub returns-then-objects-clause-cause : goal.returns-then-objects-clause-cause
returns-then-objects-clause-cause c =
    let head = c.args.head.now in
    let form = second_in head c.if-head-ne-SECOND_VERSION.false in
    let objects = c.read_u32-objects.ensures ∙ number_slice head 17 9 c.requires.long (omega arith) in
    rw c.damaged_at-then-objects.ensures (
      refl,
      goes_on (agree _ _ c.ne.result c.ne.ensures c.if-ne.false) (stops refl (λ few. omega (arith, few, ap (λ (f : Form). f.older.objects) form, objects, c.if-objects.true))),
    )

pub returns-then-cap-clause-cause : goal.returns-then-cap-clause-cause
returns-then-cap-clause-cause c =
    let head = c.args.head.now in
    let form = second_in head c.if-head-ne-SECOND_VERSION.false in
    let objects = c.read_u32-objects.ensures ∙ number_slice head 17 9 c.requires.long (omega arith) in
    let cap = c.read_u32-cap.ensures ∙ number_slice head 17 13 c.requires.long (omega arith) in
    rw c.damaged_at-then-cap.ensures (
      refl,
      goes_on (agree _ _ c.ne.result c.ne.ensures c.if-ne.false) (goes_on (omega (arith, ap (λ (f : Form). f.older.objects) form, objects, c.if-objects.false))
          (stops refl (λ short. omega (arith, short, ap (λ (f : Form). f.older.cap) form, cap, c.if-cap.true)))),
    )
