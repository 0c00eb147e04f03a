use Rattle.std.proofs.Common.{◌≡◌, ℕ, ◌<◌, true}
use Rattle.page_ops.specs.Reading.{has_cell}
use Rattle.page_map.proofs.cells.Cells.open.Given as goal

abbrev pub invariant-loop-i : goal.invariant-loop-i
invariant-loop-i l = (k : ℕ) → k < l.i → has_cell l.page k ≡ true
