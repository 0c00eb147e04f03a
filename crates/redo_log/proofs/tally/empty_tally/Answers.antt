use Rattle.std.proofs.Common.{rules}
use Rattle.redo_log.proofs.TallyLemmas.{no_tally}
use Rattle.redo_log.proofs.tally.empty_tally.Goals as goal

pub returns : goal.returns
returns c = λ w m. no_tally w m c.in_ok-vec.field-0.items (search rules)
