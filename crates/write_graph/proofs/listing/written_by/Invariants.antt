use Rattle.std.proofs.Common.{take, ℕ}
use Rattle.std.specs.Prelude.{IsTrue, ◌↔◌}
use Rattle.oper_core.specs.State.{is_among}
use Rattle.write_graph.specs.Listing.{IsWrittenBy}
use Rattle.write_graph.proofs.listing.written_by.Given as goal

abbrev pub invariant-loop-slot : goal.invariant-loop-slot
invariant-loop-slot l = (x : ℕ) → IsTrue (is_among x l.objects.items) ↔ IsWrittenBy l.entries.items (take l.slot-index l.slots) x
