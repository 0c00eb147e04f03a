use Rattle.std.proofs.Common.{◌≡◌, ◌≤◌, ◌||◌, ℕ, All, length, take, drop}
use Rattle.oper_core.specs.State.{is_among}
use Rattle.dirty_cache.specs.Contents.{held, is_dirty, HasRoom}
use Rattle.number_lists.specs.Marks.{mark_at}
use Rattle.running_store.specs.Laid.{with_entries}
use Rattle.running_store.specs.Laid.Lengths.{with_marks}
use Rattle.running_store.proofs.doing.put_values.Given as goal

abbrev pub invariant-loop-value : goal.invariant-loop-value
invariant-loop-value l = record {
  few : length l.values ≤ length l.objects;
  left : l.values ≡ take (length l.values) l.fn.values;
  room : All (HasRoom l.cache) l.objects;
  set : (x : ℕ) → held l.cache x ≡ with_entries (held l.fn.cache) l.lsn (drop (length l.values) l.objects) (drop (length l.values) l.fn.values) x;
  dirty : (x : ℕ) → is_dirty l.cache x ≡ (is_among x (drop (length l.values) l.objects) || is_dirty l.fn.cache x);
  count : length l.empties.marks ≡ length l.fn.empties.marks;
  marks : (x : ℕ) → mark_at l.empties.marks x ≡ with_marks (mark_at l.fn.empties.marks) (drop (length l.values) l.objects) (drop (length l.values) l.fn.values) x;
}

abbrev pub decreases-loop-value : goal.decreases-loop-value
decreases-loop-value l = length l.values
