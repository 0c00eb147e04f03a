use Rattle.std.proofs.Common.{◌∙◌, subst, ℕ, List, arith}
use Rattle.std.specs.Prelude.{IsTrue}
use Rattle.oper_core.specs.State.{is_among}
use Rattle.graph_nodes.proofs.pruning.prune.Goals as goal

pub put_back-requires-clause-items : goal.put_back-requires-clause-items
put_back-requires-clause-items c = λ d t. omega (arith, (c.requires.cells d (subst (λ (xs : List ℕ). IsTrue (is_among d xs)) (c.as_slice.ensures.value ∙ c.copy_to.ensures.items) t)).0, c.requires.items, c.clear.ensures.same.items)
