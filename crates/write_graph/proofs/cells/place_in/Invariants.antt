use Rattle.std.proofs.Common.{◌≡◌}
use Rattle.write_graph.proofs.Loops.{NotMet}
use Rattle.write_graph.proofs.cells.place_in.Given as goal

abbrev pub invariant-loop-y : goal.invariant-loop-y
invariant-loop-y l = (l.place ≡ l.y-index) × NotMet l.x l.objects l.y-index
