use Rattle.std.proofs.Common.{◌≡◌, ◌≤◌, ℕ, All, length, take, drop}
use Rattle.dirty_cache.specs.Contents.{held, HasRoom}
use Rattle.running_store.specs.Laid.{with_entries}
use Rattle.transactions.proofs.overlay.set_all.Given as goal

abbrev pub invariant-loop-value : goal.invariant-loop-value
invariant-loop-value l = record {
  few : length l.values ≤ length l.objects;
  left : l.values ≡ take (length l.values) l.fn.values;
  room : All (HasRoom l.made) l.objects;
  set : (x : ℕ) → held l.made x ≡ with_entries (held l.fn.made) 0 (drop (length l.values) l.objects) (drop (length l.values) l.fn.values) x;
}

abbrev pub decreases-loop-value : goal.decreases-loop-value
decreases-loop-value l = length l.values
