use Rattle.script_lines.proofs.OneLemmas.{line_one}
use Rattle.script_lines.proofs.line_laws.a_line_asks_one_thing.Goals as goal

pub returns : goal.returns
returns c = line_one
