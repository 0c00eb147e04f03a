use Rattle.std.proofs.Common.{[], sym}
use Rattle.std.proofs.lemmas.List.{get_or_past}
use Rattle.redo_log.specs.Kinds.{kind_words}
use Rattle.redo_log.proofs.tally.kind_word.Goals as goal

-- there are so many kinds
pub returns-else-kind-lt33 : goal.returns-else-kind-lt33
returns-else-kind-lt33 c = sym (get_or_past kind_words c.args.kind [] c.if-kind-lt33.false)
