use Rattle.std.proofs.Common.{arith}
use Rattle.number_lists.proofs.Placed.{placed-none}
use Rattle.number_lists.proofs.number_set.NumberSet.new.Goals as goal

pub invariant_of-result : goal.invariant_of-result
invariant_of-result c = (rw (c.new.ensures.items) (placed-none c.new-2.result.items), omega (arith, c.new-2.ensures.len, c.new-2.result.ok.0), omega arith, omega arith, omega arith)
