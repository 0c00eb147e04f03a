use Rattle.std.proofs.Common.{◌≡◌, ◌≤◌, ◌<◌, ℕ}
use Rattle.transactions.specs.Within.{length_in}
use Rattle.transactions.proofs.within.WithinStore.next_empty.Given as goal

-- none below is empty
abbrev pub invariant-loop-object : goal.invariant-loop-object
invariant-loop-object g l = (x : ℕ) → l.from ≤ x → x < l.object → length_in l.self x ≡ 0 → ⊥
