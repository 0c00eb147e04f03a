use Rattle.page_map.proofs.PageLemmas.{Climb}
use Rattle.page_map.proofs.fitting.rise.Given as goal

abbrev pub invariant-loop-i : goal.invariant-loop-i
invariant-loop-i l = Climb l.cells l.i
