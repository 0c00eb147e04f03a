use Rattle.std.proofs.Common.{◌≡◌, ◌++◌, take}
use Rattle.std.specs.List.{flat_map}
use Rattle.redo_log.specs.Lines.{start_words}
use Rattle.redo_log.proofs.lines.push_starts.Given as goal

abbrev pub invariant-loop-start : goal.invariant-loop-start
invariant-loop-start l = l.text.items ≡ l.fn.text.items ++ flat_map start_words (take l.start-index l.starts)
