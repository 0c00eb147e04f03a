use Rattle.std.proofs.Common.{◌≢◌, ◌<◌, ℕ, List, get_or}
use Rattle.btree_ops.proofs.split.place_after.Given as goal

abbrev pub invariant-loop-i : goal.invariant-loop-i
invariant-loop-i l = (k : ℕ) (d : List ℕ × ℕ) → k < l.i → (get_or l.branches k d).1 ≢ l.child
