use Rattle.std.proofs.Common.{rules, arith}
use Rattle.std.proofs.lemmas.Grind.{common_steps}
use Rattle.resp_words.proofs.Ends.{end_front_none, end_front_one}
use Rattle.resp_words.proofs.number.line_end.Goals as goal

pub returns-then-is_empty : goal.returns-then-is_empty
returns-then-is_empty c = end_front_none c.args.bytes.now (grind (arith, common_steps, c.if-is_empty.ensures))

pub returns-then-bytes-eq1 : goal.returns-then-bytes-eq1
returns-then-bytes-eq1 c = end_front_one c.args.bytes.now (search rules) (search rules)
