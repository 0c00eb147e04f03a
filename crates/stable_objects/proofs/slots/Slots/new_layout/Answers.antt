use Rattle.std.proofs.Common.{◌≡◌, ap, sym, subst}
use Rattle.formats.specs.declared.form.Form.{Form}
use Rattle.formats.specs.declared.layout.Layout.{Layout}
use Rattle.stable_objects.specs.Layouts.{IsLayout, new_layout}
use Rattle.stable_objects.specs.LayoutLaws.{new_is_layout}
use Rattle.stable_objects.proofs.slots.Slots.new_layout.Goals as goal

pub returns-clause-is : goal.returns-clause-is
returns-clause-is c = λ i. record { params = c.args.params; first = (c.new_form.ensures i).first }

pub returns-clause-known : goal.returns-clause-known
returns-clause-known c =
    let same : new_layout c.args.params ≡ record { params = c.args.params; first = c.new_form.result.first } = ap (λ (f : Form). record { params = c.args.params; first = f.first }) (sym c.new_form.ensures) in
    subst (λ (l : Layout). IsLayout l) same (new_is_layout c.args.params c.requires)
