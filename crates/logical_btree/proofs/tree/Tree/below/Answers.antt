use Rattle.std.proofs.Common.{List, ℕ, option_and_then, sym, ap, ◌∙◌}
use Rattle.logical_btree.specs.Walk.{if_sound, read_as}
use Rattle.btree_ops.specs.Head.{branches_in}
use Rattle.logical_btree.specs.Below.{below_in, child_below}
use Rattle.logical_btree.proofs.BelowLemmas.{below_by, below_inner}
use Rattle.logical_btree.proofs.tree.Tree.below.Goals as goal

pub returns : goal.returns
returns c s is =
    let lo : ℕ = c.args.self.now.lo in
    let hi : ℕ = c.args.self.now.hi in
    let head = c.in_ok-head.head in
    ap (below_by lo hi c.args.key head.count) (c.in_ok-child.ensures ∙ ap (λ (k : List ℕ). child_below lo hi k head.first (branches_in head.count head.branches.now)) c.as_slice.ensures.value)
    ∙ below_inner lo hi c.args.key c.args.object c.args.value.now head.first head.count head.branches.now c.in_ok-head.ensures.some
    ∙ ap (λ (l : List ℕ). below_in c.args.key (option_and_then (if_sound lo hi) (read_as lo c.args.object l))) (sym is)
