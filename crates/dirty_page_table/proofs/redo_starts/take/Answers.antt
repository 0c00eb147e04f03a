use Rattle.std.proofs.Common.{rules}
use Rattle.dirty_page_table.proofs.redo_starts.take.Goals as goal

pub returns-clause-next : goal.returns-clause-next
returns-clause-next c = search rules

pub returns-clause-starts : goal.returns-clause-starts
returns-clause-starts c = search rules
