use Rattle.std.proofs.Common.{subst, ℕ, ◌<◌, ◌≤◌, arith}
use Rattle.std.specs.Prelude.{IsFalse}
use Rattle.number_lists.specs.Marks.{Marks, mark_at}
use Rattle.number_lists.proofs.Marked.{next-earlier}
use Rattle.number_lists.proofs.number_tree.NumberTree.next.Goals as goal

pub returns : goal.returns
returns c =
    let none : (k : ℕ) → c.args.from ≤ k → k < c.max.result → IsFalse (mark_at c.self.inside.low.marks k) = λ k ge lt. c.self.invariant.2.none k (omega (arith, ge, lt, c.max.ensures)) in
    next-earlier c.args.self.now.marks c.args.from c.max.result c.next_at.result (omega (arith, c.max.ensures))
    (subst (λ (m : Marks). (k : ℕ) → c.args.from ≤ k → k < c.max.result → IsFalse (mark_at m.marks k)) c.self.view_is none) c.next_at.ensures
