use Rattle.std.proofs.Common.{◌≡◌, ◌≤◌, ℕ, true, IsSome, length, take, drop}
use Rattle.oper_core.specs.State.{is_among, value_for}
use Rattle.dirty_cache.specs.Contents.{held}
use Rattle.running_store.specs.Laid.Lent.{KeepsOthers, cached_values}
use Rattle.running_store.proofs.lending.give_back.Given as goal

abbrev pub invariant-loop-value : goal.invariant-loop-value
invariant-loop-value l = record {
  few : length l.values ≤ length l.objects;
  left : l.values ≡ take (length l.values) l.fn.values;
  kept : KeepsOthers (drop (length l.values) l.objects) l.fn.cache l.cache;
  back : (x : ℕ) → is_among x (drop (length l.values) l.objects) ≡ true → IsSome (held l.fn.cache x)
      → cached_values l.cache x ≡ value_for x (drop (length l.values) l.objects) (drop (length l.values) l.fn.values);
}

abbrev pub decreases-loop-value : goal.decreases-loop-value
decreases-loop-value l = length l.values
