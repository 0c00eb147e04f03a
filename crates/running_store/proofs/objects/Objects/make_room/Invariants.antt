use Rattle.std.proofs.Common.{◌≡◌, ℕ, All, List, take}
use Rattle.dirty_cache.specs.Contents.{held, is_dirty, HasRoom}
use Rattle.running_store.specs.Laid.{IsLaidOn}
use Rattle.running_store.proofs.objects.Objects.make_room.Given as goal

abbrev pub invariant-loop-object : goal.invariant-loop-object
invariant-loop-object l = record {
  slots : l.self.slots ≡ l.fn.self.slots;
  room : All (HasRoom l.self.cache) (take l.object-index l.objects);
  entries : (x : ℕ) → held l.self.cache x ≡ held l.fn.self.cache x;
  dirty : (x : ℕ) → is_dirty l.self.cache x ≡ is_dirty l.fn.self.cache x;
  laid : (file : List ℕ) → IsLaidOn l.fn.self file → IsLaidOn l.self file;
}
