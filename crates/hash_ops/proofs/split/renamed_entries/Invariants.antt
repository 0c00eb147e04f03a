use Rattle.std.proofs.Common.{◌≡◌, ◌++◌, drop, length}
use Rattle.hash_ops.specs.Effects.{renamed}
use Rattle.hash_ops.proofs.split.renamed_entries.Given as goal

abbrev pub invariant-loop-i : goal.invariant-loop-i
invariant-loop-i l = record {
  so_far : renamed l.place l.old l.new 0 l.entries ≡ l.after.items ++ renamed l.place l.old l.new l.i (drop l.i l.entries);
  size : length l.after.items ≡ l.i;
}
