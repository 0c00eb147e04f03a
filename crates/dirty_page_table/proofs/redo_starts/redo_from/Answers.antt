use Rattle.std.proofs.Common.{arith}
use Rattle.std.proofs.lemmas.Grind.{common_steps}
use Rattle.dirty_page_table.proofs.redo_starts.redo_from.Goals as goal

pub returns-then-object-other : goal.returns-then-object-other
returns-then-object-other c = grind (arith, common_steps)

pub returns : goal.returns
returns c = grind (arith, common_steps)
