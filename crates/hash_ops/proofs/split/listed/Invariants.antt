use Rattle.std.proofs.Common.{◌≡◌, take}
use Rattle.hash_ops.proofs.split.listed.Given as goal

abbrev pub invariant-loop-object : goal.invariant-loop-object
invariant-loop-object l = l.all.items ≡ take l.object-index l.entries
