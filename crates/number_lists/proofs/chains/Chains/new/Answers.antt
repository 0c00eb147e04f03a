use Rattle.std.proofs.Common.{arith}
use Rattle.number_lists.proofs.Steps.{none-apart}
use Rattle.number_lists.proofs.chains.Chains.new.Goals as goal

pub invariant_of-result : goal.invariant_of-result
invariant_of-result c = rw (c.new.ensures.items) (none-apart c.new-2.result.items _, omega arith)
