use Rattle.std.proofs.Common.{◌≡◌, drop}
use Rattle.dirty_page_table.specs.RedoStarts.{start_or}
use Rattle.dirty_page_table.proofs.redo_starts.redo_from.Given as goal

abbrev pub invariant-loop-other : goal.invariant-loop-other
invariant-loop-other l = start_or l.table.next (drop l.other-index l.table.starts) l.object ≡ start_or l.table.next l.table.starts l.object
