use Rattle.std.proofs.Common.{◌≤◌, ℕ, take}
use Rattle.std.specs.Prelude.{All}
use Rattle.checkpointing.proofs.taking.least_start.Given as goal

abbrev pub invariant-loop-start : goal.invariant-loop-start
invariant-loop-start l = (l.least ≤ l.next) × All (λ s. l.least ≤ s.1) (take l.start-index l.starts) × ((k : ℕ) → k ≤ l.next → All (λ s. k ≤ s.1) l.starts → k ≤ l.least)
