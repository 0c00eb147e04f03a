use Rattle.std.proofs.Common.{◌≡◌, ◌≤◌, ◌++◌, drop}
use Rattle.std.specs.List.{filter}
use Rattle.arrayvec.specs.ArrayVec.{array_vec_len}
use Rattle.logical_btree.specs.Walk.{is_within}
use Rattle.tree_client.proofs.piecing.asked_pairs.Given as goal

abbrev pub invariant-loop-i : goal.invariant-loop-i
invariant-loop-i l = record {
  few : array_vec_len l.pairs ≤ l.i;
  kept : l.pairs.items ++ filter (λ e. is_within e.0 (record { from = l.from; to = l.end })) (drop l.i l.all) ≡ filter (λ e. is_within e.0 (record { from = l.from; to = l.end })) l.all;
}
