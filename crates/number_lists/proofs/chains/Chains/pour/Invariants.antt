use Rattle.std.proofs.Common.{length}
use Rattle.number_lists.specs.Lists.{list_at}
use Rattle.number_lists.proofs.Poured.{IsPouring}
use Rattle.number_lists.proofs.chains.Chains.pour.Given as goal

abbrev pub invariant-moves : goal.invariant-moves
invariant-moves l = IsPouring l.initial.self l.from l.to l.self

abbrev pub decreases-moves : goal.decreases-moves
decreases-moves l = length (list_at l.self.lists l.from)
