use Rattle.std.proofs.Common.{◌≡◌, take}
use Rattle.write_graph.proofs.entry_table.copied.Given as goal

abbrev pub invariant-loop-x : goal.invariant-loop-x
invariant-loop-x l = l.copy ≡ take l.x-index l.objects
