use Rattle.std.proofs.Common.{◌≡◌, ◌≤◌, All, length}
use Rattle.ops_tests.proofs.commands.values.Given as goal

abbrev pub invariant-loop-i : goal.invariant-loop-i
invariant-loop-i l = record {
  count : length l.values ≡ l.i;
  short : All (λ v. length v ≤ l.cap) l.values;
}
