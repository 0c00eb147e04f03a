use Rattle.std.proofs.Common.{◌≡◌, drop}
use Rattle.logical_btree.specs.Walk.{child_for}
use Rattle.logical_btree.proofs.child.child_for.Given as goal

abbrev pub invariant-loop-i : goal.invariant-loop-i
invariant-loop-i l = child_for l.key l.first l.branches ≡ child_for l.key l.child (drop l.i l.branches)
