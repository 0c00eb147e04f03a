use Rattle.std.proofs.Common.{arith, rules}
use Rattle.named_words.proofs.Parts.{cut_none, cut_some}
use Rattle.named_words.proofs.range.cut.Goals as goal

pub returns-then-start-end : goal.returns-then-start-end
returns-then-start-end c = cut_some c.args.value.now c.args.start c.args.last c.min-end.result (search rules)

pub returns : goal.returns
returns c = cut_none c.args.value.now c.args.start c.args.last c.min-end.result (search rules) (omega arith)
