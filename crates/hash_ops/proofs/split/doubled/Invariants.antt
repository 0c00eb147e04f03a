use Rattle.std.proofs.Common.{◌≡◌, ◌++◌, take}
use Rattle.hash_ops.proofs.split.doubled.Given as goal

abbrev pub invariant-loop-entry : goal.invariant-loop-entry
invariant-loop-entry l = l.all.items ≡ l.fn.entries ++ take l.entry-index l.entries
