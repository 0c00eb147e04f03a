use Rattle.std.proofs.Common.{◌≡◌, ◌≤◌, ◌++◌, take}
use Rattle.std.specs.Vec.{vec_capacity}
use Rattle.write_graph.proofs.entry_table.push_all.Given as goal

abbrev pub invariant-loop-k : goal.invariant-loop-k
invariant-loop-k l = (l.numbers.items ≡ l.fn.numbers.items ++ take l.k-index l.more) × (vec_capacity l.fn.numbers ≤ vec_capacity l.numbers)
