use Rattle.page_map.proofs.FittingLemmas.{ArePushed}
use Rattle.page_map.proofs.fitting.push_children.Given as goal

abbrev pub invariant-loop-left : goal.invariant-loop-left
invariant-loop-left l = ArePushed l.map l.cells l.level l.fn.to l.fn.waiting.items l.waiting.items l.end l.left

abbrev pub decreases-loop-left : goal.decreases-loop-left
decreases-loop-left l = l.left
