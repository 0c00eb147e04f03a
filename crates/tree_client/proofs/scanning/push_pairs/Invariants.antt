use Rattle.std.proofs.Common.{◌≡◌, ◌++◌, drop}
use Rattle.std.specs.List.{filter}
use Rattle.logical_btree.specs.Walk.{is_within}
use Rattle.tree_client.specs.Scanning.{span}
use Rattle.tree_client.proofs.scanning.push_pairs.Given as goal

abbrev pub invariant-loop-i : goal.invariant-loop-i
invariant-loop-i l = l.pairs.items ++ filter (λ e. is_within e.0 (span l.from l.to)) (drop l.i l.leaf) ≡ l.fn.pairs.items ++ filter (λ e. is_within e.0 (span l.from l.to)) l.leaf
