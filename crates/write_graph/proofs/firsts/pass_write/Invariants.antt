use Rattle.std.proofs.Common.{◌≤◌, length, nat_eq}
use Rattle.indexmap.specs.IndexMap.{get, spare}
use Rattle.write_graph.proofs.FirstWriters.{ArePassing, left_from}
use Rattle.write_graph.proofs.firsts.pass_write.Given as goal

abbrev pub invariant-writers : goal.invariant-writers
invariant-writers l = ArePassing l.entries.items l.links.graph l.node l.x (get nat_eq l.fn.firsts) (get nat_eq l.firsts) × (spare l.fn.firsts ≤ spare l.firsts)

abbrev pub decreases-writers : goal.decreases-writers
decreases-writers l = left_from (length l.entries.items) (get nat_eq l.firsts l.x)
