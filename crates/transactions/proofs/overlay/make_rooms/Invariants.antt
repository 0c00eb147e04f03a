use Rattle.std.proofs.Common.{◌≡◌, ℕ, All, take}
use Rattle.dirty_cache.specs.Contents.{held, HasRoom}
use Rattle.transactions.proofs.overlay.make_rooms.Given as goal

abbrev pub invariant-loop-object : goal.invariant-loop-object
invariant-loop-object l = record {
  room : All (HasRoom l.made) (take l.object-index l.objects);
  held : (x : ℕ) → held l.made x ≡ held l.fn.made x;
}
