use Rattle.std.proofs.Common.{◌≡◌, ◌+◌, ◌*◌, ◌≤◌, drop}
use Rattle.page_map.specs.Splits.{size_of}
use Rattle.page_map.proofs.row.Row.total.Given as goal

abbrev pub invariant-loop-i : goal.invariant-loop-i
invariant-loop-i l = record {
  so_far : l.total + size_of (drop l.i l.self) ≡ size_of l.self;
  few : l.total ≤ 262144 * l.i;
}
