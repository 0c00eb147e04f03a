use Rattle.std.proofs.Common.{◌≤◌, ◌-◌, ◌^◌, ℕ}
use Rattle.running_store.specs.Parts.{volatile}
use Rattle.cache_manager.specs.Thin.{NamesThin}
use Rattle.cache_manager.proofs.thin.least_thin.Given as goal

abbrev pub invariant-loop-name : goal.invariant-loop-name
invariant-loop-name l = (n : ℕ) → NamesThin (volatile l.objects l.graph.entries) n → l.from ≤ n

abbrev pub decreases-loop-name : goal.decreases-loop-name
decreases-loop-name l = 2 ^ 62 - l.from
