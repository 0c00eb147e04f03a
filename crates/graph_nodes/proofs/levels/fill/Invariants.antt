use Rattle.std.proofs.Common.{◌≡◌, ℕ, ◌≤◌, length}
use Rattle.std.specs.Vec.{vec_capacity}
use Rattle.graph_nodes.specs.Levels.{level_at}
use Rattle.graph_nodes.proofs.levels.fill.Given as goal

abbrev pub invariant-loop-i : goal.invariant-loop-i
invariant-loop-i l = ((m : ℕ) → level_at l.level.items m ≡ level_at l.fn.level.items m) × (length l.level.items ≡ l.i) × (vec_capacity l.fn.level ≤ vec_capacity l.level)
