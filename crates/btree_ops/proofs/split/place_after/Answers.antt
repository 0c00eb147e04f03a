use Rattle.std.proofs.Common.{◌≡◌, ℕ, suc, ◌+◌, Some, insert, ap, ◌∙◌, arith}
use Rattle.btree_ops.proofs.SplitLemmas.{behind_later, behind_no_child}
use Rattle.btree_ops.proofs.split.place_after.Goals as goal

pub returns-then-branches-i-clause-some : goal.returns-then-branches-i-clause-some
returns-then-branches-i-clause-some c new =
    let next : suc c.loop-i.i ≡ c.loop-i.i + 1 = omega arith in
    behind_later c.args.child c.args.first c.args.branches.now c.if-first-child.false c.loop-i.i c.index-branches-i.result c.loop-i.invariant c.loop-i-test.true c.if-branches-i.true new
    ∙ ap (λ (k : ℕ). Some (insert c.args.branches.now k new)) next

pub returns-clause-none : goal.returns-clause-none
returns-clause-none c new =
    behind_no_child c.args.child c.args.first c.args.branches.now c.if-first-child.false (λ k d low. c.loop-i.invariant k d (omega (arith, low, c.loop-i-test.false))) new
