use Rattle.std.proofs.Common.{ap, arith}
use Rattle.formats.specs.declared.form.Form.{Form}
use Rattle.stable_objects.proofs.slots.Slots.larger_layout.Goals as goal

pub returns-clause-is : goal.returns-clause-is
returns-clause-is c = λ i. record { params = c.args.params; first = (c.larger_form.ensures.is i).first }

pub returns-clause-known : goal.returns-clause-known
returns-clause-known c =
    let known = c.larger_form.ensures.known in
    record {
      in_range = c.requires.in_range;
      behind = known.header;
      near = known.near;
      small = λ here. absurd (omega (arith, here, ap (λ (f : Form). f.first) c.larger_form.ensures.is));
    }
