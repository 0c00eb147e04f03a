use Rattle.std.proofs.Common.{take, ℕ}
use Rattle.std.specs.Prelude.{IsTrue, ◌↔◌}
use Rattle.oper_core.specs.State.{is_among}
use Rattle.write_graph.specs.Listing.{IsLsnOf}
use Rattle.write_graph.proofs.listing.lsns_of.Given as goal

abbrev pub invariant-loop-slot : goal.invariant-loop-slot
invariant-loop-slot l = (k : ℕ) → IsTrue (is_among k l.found.items) ↔ IsLsnOf l.entries.items (take l.slot-index l.slots) k
