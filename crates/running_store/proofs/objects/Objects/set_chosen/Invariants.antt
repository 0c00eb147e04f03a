use Rattle.std.proofs.Common.{◌≡◌, ◌≤◌, ◌&&◌, ◌||◌, ℕ, All, List, length, take, drop}
use Rattle.oper_core.specs.State.{is_among}
use Rattle.dirty_cache.specs.Contents.{held, is_dirty, HasRoom}
use Rattle.running_store.specs.Laid.{IsLaidOn, with_chosen}
use Rattle.running_store.proofs.objects.Objects.set_chosen.Given as goal

abbrev pub invariant-loop-value : goal.invariant-loop-value
invariant-loop-value l = record {
  slots : l.self.slots ≡ l.fn.self.slots;
  few : length l.values ≤ length l.objects;
  left : l.values ≡ take (length l.values) l.fn.values;
  room : All (HasRoom l.self.cache) l.objects;
  set : (x : ℕ) → held l.self.cache x ≡ with_chosen (held l.fn.self.cache) l.lsn l.chosen (drop (length l.values) l.objects) (drop (length l.values) l.fn.values) x;
  dirty : (x : ℕ) → is_dirty l.self.cache x ≡ ((is_among x l.chosen && is_among x (drop (length l.values) l.objects)) || is_dirty l.fn.self.cache x);
  laid : (file : List ℕ) → IsLaidOn l.fn.self file → IsLaidOn l.self file;
}

abbrev pub decreases-loop-value : goal.decreases-loop-value
decreases-loop-value l = length l.values
