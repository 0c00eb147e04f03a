use Rattle.std.proofs.Common.{arith}
use Rattle.number_lists.proofs.Placed.{placed-none}
use Rattle.number_lists.proofs.number_set.NumberSet.clear.Goals as goal

pub invariant_of-self : goal.invariant_of-self
invariant_of-self c = (rw c.clear.ensures.items (placed-none c.self.inside.place.items), c.self.invariant.1, c.self.invariant.2, omega (arith, c.self.invariant.3, c.clear.ensures.capacity), c.self.invariant.4)
