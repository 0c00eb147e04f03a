use Rattle.std.proofs.Common.{◌≡◌, drop}
use Rattle.tree_client.specs.Pieces.{end_below}
use Rattle.tree_client.proofs.piecing.end_for.Given as goal

abbrev pub invariant-loop-i : goal.invariant-loop-i
invariant-loop-i l = end_below l.key l.end l.branches ≡ end_below l.key l.end (drop l.i l.branches)
