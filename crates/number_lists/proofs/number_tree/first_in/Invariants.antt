use Rattle.std.proofs.Common.{ℕ, ◌<◌, ◌≤◌}
use Rattle.std.specs.Prelude.{IsFalse}
use Rattle.number_lists.specs.Marks.{mark_at}
use Rattle.number_lists.proofs.number_tree.first_in.Given as goal

abbrev pub invariant-loop-i : goal.invariant-loop-i
invariant-loop-i l = (k : ℕ) → l.from ≤ k → k < l.i → IsFalse (mark_at l.marks k)
