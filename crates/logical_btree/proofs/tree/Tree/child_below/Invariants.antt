use Rattle.std.proofs.Common.{◌-◌}
use Rattle.logical_btree.proofs.BelowLemmas.{IsReadTo}
use Rattle.logical_btree.proofs.tree.Tree.child_below.Given as goal

abbrev pub invariant-loop-read : goal.invariant-loop-read
invariant-loop-read l = IsReadTo l.self.lo l.self.hi l.key l.head.count l.head.branches.now l.head.first l.last l.child (l.head.count - l._read) l.rest
