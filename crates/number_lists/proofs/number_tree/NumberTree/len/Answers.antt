use Rattle.std.proofs.Common.{subst}
use Rattle.std.specs.Prelude.{IsTrue}
use Rattle.number_lists.specs.Marks.{Marks, mark_at, IsCount}
use Rattle.number_lists.proofs.Marked.{count-listed}
use Rattle.number_lists.proofs.number_tree.NumberTree.len.Goals as goal

pub returns : goal.returns
returns c = subst (λ (m : Marks). IsCount (λ n. IsTrue (mark_at m.marks n)) c.self.inside.count) c.self.view_is (count-listed c.self.inside.low.marks c.self.inside.count c.self.invariant.1)
