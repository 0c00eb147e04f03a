use Rattle.std.proofs.Common.{◌∙◌, subst, sym}
use Rattle.stable_objects.specs.LayoutLaws.{first_is_form}
use Rattle.stable_objects.specs.Layouts.{IsForm}
use Rattle.redo_check.proofs.FormLemmas.{form_first, placed_first}
use Rattle.redo_check.proofs.objects.form_of.Goals as goal

pub returns-clause-some : goal.returns-clause-some
returns-clause-some c =
    let first = sym c.is_second.ensures ∙ c.if-is_second.false in
    (c.first_form.ensures ∙ sym (form_first c.args.head.now first), subst IsForm (sym c.first_form.ensures) first_is_form, placed_first c.args.head.now first)
