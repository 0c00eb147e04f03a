use Rattle.std.proofs.Common.{◌≡◌, ℕ, ◌≤◌, max, length}
use Rattle.std.specs.Prelude.{slice_index}
use Rattle.std.specs.Vec.{vec_capacity}
use Rattle.number_lists.proofs.number_set.fill.Given as goal

abbrev pub invariant-loop-i : goal.invariant-loop-i
invariant-loop-i l = ((i : ℕ) → slice_index l.numbers.items i ≡ slice_index l.fn.numbers.items i) × (length l.numbers.items ≡ l.i) × (l.i ≤ max (length l.fn.numbers.items) l.count) × (length l.fn.numbers.items ≤ l.i) × (vec_capacity l.fn.numbers ≤ vec_capacity l.numbers)
