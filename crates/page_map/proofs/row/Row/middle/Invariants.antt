use Rattle.std.proofs.Common.{◌≡◌, ◌+◌, ◌*◌, ◌≤◌, drop}
use Rattle.page_map.specs.Splits.{middle, middle_from, size_of}
use Rattle.page_map.proofs.row.Row.middle.Given as goal

abbrev pub invariant-loop-i : goal.invariant-loop-i
invariant-loop-i l = record {
  so_far : l.i + middle_from (size_of l.self) l.front (drop l.i l.self) ≡ middle l.self;
  few : l.front ≤ 262144 * l.i;
}
