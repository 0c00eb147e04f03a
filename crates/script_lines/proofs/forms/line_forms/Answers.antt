use Rattle.std.proofs.Common.{ap, sym, List, map}
use Rattle.script_lines.specs.Forms.{head_in}
use Rattle.script_lines.specs.Grammar.{fields_of}
use Rattle.script_lines.specs.declared.forms.LineForm.{LineForm}
use Rattle.script_lines.proofs.forms.line_forms.Goals as goal

-- both are computed
pub returns : goal.returns
returns c = ap (λ (forms : List LineForm). map (λ (form : LineForm). head_in (fields_of form.text.now)) forms) (sym c.as_slice.ensures)
