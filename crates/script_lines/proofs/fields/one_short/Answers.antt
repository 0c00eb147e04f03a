use Rattle.script_lines.proofs.ReadLemmas.{short_found}
use Rattle.script_lines.proofs.fields.one_short.Goals as goal

pub returns : goal.returns
returns c = λ make. short_found make _ _ _ c.short_of.result c.in_ok-field.ensures.some c.short_of.ensures.some c.short_of.ensures.none (c.in_ok-no_field.ensures)
