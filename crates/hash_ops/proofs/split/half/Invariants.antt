use Rattle.std.proofs.Common.{◌≡◌, ◌≤◌, ◌++◌, drop, length}
use Rattle.hash_ops.specs.Effects as effects
use Rattle.hash_ops.proofs.split.half.Given as goal

abbrev pub invariant-loop-pair : goal.invariant-loop-pair
invariant-loop-pair l = record {
  so_far : effects.half l.upper l.place l.pairs ≡ l.kept.items ++ effects.half l.upper l.place (drop l.pair-index l.pairs);
  size : length l.kept.items ≤ l.pair-index;
}
