use Rattle.std.proofs.Common.{◌∙◌, subst, sym}
use Rattle.stable_objects.specs.LayoutLaws.{second_is_form}
use Rattle.stable_objects.specs.Layouts.{IsForm}
use Rattle.redo_check.proofs.FormLemmas.{placed_second}
use Rattle.redo_check.proofs.objects.larger_form.Goals as goal

pub returns-then-is_older-clause-some : goal.returns-then-is_older-clause-some
returns-then-is_older-clause-some c =
    let placed = placed_second c.args.head.now c.older_of-older.result c.requires.second c.older_of-older.ensures in
    let within = c.is_older.ensures.within c.if-is_older.true in
    (c.second_form.ensures ∙ placed.0, subst IsForm (sym c.second_form.ensures) (second_is_form c.older_of-older.result within.0 within.1), placed.1 ∙ sym c.is_older.ensures.is ∙ c.if-is_older.true)

pub returns-clause-none : goal.returns-clause-none
returns-clause-none c =
    let placed = placed_second c.args.head.now c.older_of-older.result c.requires.second c.older_of-older.ensures in
    placed.1 ∙ sym c.is_older.ensures.is ∙ c.if-is_older.false
