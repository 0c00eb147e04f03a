use Rattle.std.proofs.Common.{◌∙◌, ap, sym, subst}
use Rattle.formats.specs.Objects.{bounds_of, second_form}
use Rattle.stable_objects.specs.Layouts.{IsForm}
use Rattle.stable_objects.specs.LayoutLaws.{second_is_form}
use Rattle.stable_objects.specs.SlotsView.{SlotsView}
use Rattle.stable_objects.proofs.slots.Slots.larger_form.Goals as goal

pub second_form-requires-clause-objects : goal.second_form-requires-clause-objects
second_form-requires-clause-objects c = (c.self.invariant.is.small (ap (λ (v : SlotsView). v.first) c.self.view_is ∙ c.requires)).0

pub second_form-requires-clause-cap : goal.second_form-requires-clause-cap
second_form-requires-clause-cap c = (c.self.invariant.is.small (ap (λ (v : SlotsView). v.first) c.self.view_is ∙ c.requires)).1

pub returns-clause-is : goal.returns-clause-is
returns-clause-is c = c.second_form.ensures ∙ ap (λ (v : SlotsView). second_form (bounds_of v.params)) c.self.view_is

pub returns-clause-known : goal.returns-clause-known
returns-clause-known c =
    let small = c.self.invariant.is.small (ap (λ (v : SlotsView). v.first) c.self.view_is ∙ c.requires) in
    subst IsForm (sym c.second_form.ensures) (second_is_form _ small.0 small.1)
