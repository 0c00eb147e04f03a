use Rattle.std.proofs.Common.{◌≡◌, ◌≤◌, ◌-◌, length}
use Rattle.page_map.specs.Splits.{separator}
use Rattle.page_map.proofs.RowLemmas.{so_far}
use Rattle.page_map.proofs.cutting.common.Given as goal

abbrev pub invariant-loop-i : goal.invariant-loop-i
invariant-loop-i l = record {
  so_far : so_far l.low l.high l.i ≡ separator l.low l.high;
  within : l.i ≤ length l.high;
}

abbrev pub decreases-loop-i : goal.decreases-loop-i
decreases-loop-i l = length l.low - l.i
