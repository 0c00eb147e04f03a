use Rattle.std.proofs.Common.{◌≡◌, ◌+◌, ◌≤◌, ℕ, length, take, nat_eq}
use Rattle.indexmap.specs.IndexMap.{get, spare}
use Rattle.write_graph.specs.Firsts.{noted}
use Rattle.write_graph.proofs.firsts.note_writes.Given as goal

abbrev pub invariant-loop-x : goal.invariant-loop-x
invariant-loop-x l = ((y : ℕ) → get nat_eq l.firsts y ≡ noted (take l.x-index l.objects) l.slot (get nat_eq l.fn.firsts) y) × (length l.objects ≤ spare l.firsts + l.x-index) × (spare l.fn.firsts ≤ spare l.firsts + l.x-index) × (l.x-index ≤ length l.objects)
