use Rattle.script_lines.specs.Replies.{text_of}
use Rattle.std.proofs.Common.{take}
use Rattle.script_run.specs.PrintedLaws.{lines_said, plain_text, plain_front}
use Rattle.script_run.proofs.line_answers.the_lines_said_are_the_answers.Goals as goal

pub returns-clause-lines : goal.returns-clause-lines
returns-clause-lines c = λ replies next count. lines_said replies (take count (text_of next)) (plain_front count (text_of next) (plain_text next))
