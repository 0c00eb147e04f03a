use Rattle.std.proofs.Common.{◌≤◌, ℕ, take, nat_eq}
use Rattle.indexmap.specs.IndexMap.{get, spare}
use Rattle.write_graph.specs.Listing.{IsWrittenBy}
use Rattle.write_graph.specs.Firsts.{ArePassed, IsOutside}
use Rattle.write_graph.proofs.firsts.pass_over.Given as goal

abbrev pub invariant-loop-slot : goal.invariant-loop-slot
invariant-loop-slot l = ArePassed l.entries.items l.links.graph l.node (get nat_eq l.firsts) × ((x : ℕ) → IsWrittenBy l.entries.items (take l.slot-index l.slots) x → IsOutside l.links.graph l.node (get nat_eq l.firsts x)) × (spare l.fn.firsts ≤ spare l.firsts)
