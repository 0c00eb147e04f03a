use Rattle.std.proofs.Common.{ℕ, List, sym, subst, arith}
use Rattle.number_lists.specs.Sparse.{AreStanding}
use Rattle.number_lists.proofs.Standing.{standing-none}
use Rattle.number_lists.proofs.sparse_chains.SparseChains.new.Goals as goal

pub invariant_of-result : goal.invariant_of-result
invariant_of-result c = (subst (λ (xs : List ℕ). AreStanding c.new.result xs 0) (sym c.new-2.ensures.items) (standing-none c.new.result c.new.ensures.lists c.new.ensures.items), omega arith, omega arith, omega arith)
