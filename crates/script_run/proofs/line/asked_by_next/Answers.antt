use Rattle.std.proofs.Common.{subst}
use Rattle.script_lines.specs.GrammarLaws.{long_is_bad}
use Rattle.script_lines.specs.Reading.{IsLine}
use Rattle.script_lines.specs.declared.next.Next.{Next}
use Rattle.script_run.proofs.LineLemmas.{asked_line, found_long, long_line, some_asked}
use Rattle.script_run.proofs.line.asked_by_next.Goals as goal

pub returns-in-Line-clause-asks : goal.returns-in-Line-clause-asks
returns-in-Line-clause-asks c = asked_line c.args.next c.args.bytes.now c.asked_by.result c.in-Line.is c.asked_by.ensures

pub returns-in-Line-clause-some : goal.returns-in-Line-clause-some
returns-in-Line-clause-some c = λ some. some_asked c.args.bytes.now c.asked_by.result c.asked_by.ensures

pub returns-in-Long-clause-asks : goal.returns-in-Long-clause-asks
returns-in-Long-clause-asks c = λ line found. found_long c.args.next c.args.bytes.now line c.in-Long.is found

pub returns-in-Long-clause-some : goal.returns-in-Long-clause-some
returns-in-Long-clause-some c = λ some. (long_line.0, long_is_bad long_line.0 long_line.1)

pub returns-in-End-clause-asks : goal.returns-in-End-clause-asks
returns-in-End-clause-asks c = λ line found. absurd (subst (λ (next : Next). IsLine next c.args.bytes.now line) c.in-End.is found)

pub returns-in-End-clause-some : goal.returns-in-End-clause-some
returns-in-End-clause-some c = λ some. absurd (some c.in-End.is)
