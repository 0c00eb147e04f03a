use Rattle.script_lines.proofs.ReplyLemmas.{text_one}
use Rattle.script_lines.proofs.line_laws.a_text_says_one_thing.Goals as goal

pub returns : goal.returns
returns c = text_one
