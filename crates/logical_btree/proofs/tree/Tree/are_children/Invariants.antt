use Rattle.std.proofs.Common.{◌≡◌, map, drop}
use Rattle.std.specs.List.{list_all}
use Rattle.logical_btree.specs.Walk.{is_child}
use Rattle.logical_btree.proofs.tree.Tree.are_children.Given as goal

abbrev pub invariant-loop-i : goal.invariant-loop-i
invariant-loop-i l = list_all (is_child l.self.lo l.self.hi) (map (λ b. b.1) l.branches) ≡ list_all (is_child l.self.lo l.self.hi) (map (λ b. b.1) (drop l.i l.branches))
