use Rattle.std.proofs.Common.{◌≤◌, ℕ, take, nat_eq}
use Rattle.std.specs.Prelude.{IsTrue}
use Rattle.indexmap.specs.IndexMap.{get, spare}
use Rattle.oper_core.specs.State.{is_among}
use Rattle.write_graph.specs.Firsts.{ArePassed, IsOutside}
use Rattle.write_graph.proofs.firsts.pass_writes.Given as goal

abbrev pub invariant-loop-x : goal.invariant-loop-x
invariant-loop-x l = ArePassed l.entries.items l.links.graph l.node (get nat_eq l.firsts) × ((x : ℕ) → IsTrue (is_among x (take l.x-index l.x-items)) → IsOutside l.links.graph l.node (get nat_eq l.firsts x))
    × ((x : ℕ) → IsOutside l.links.graph l.node (get nat_eq l.fn.firsts x) → IsOutside l.links.graph l.node (get nat_eq l.firsts x)) × (spare l.fn.firsts ≤ spare l.firsts)
