use Rattle.std.proofs.Common.{◌≤◌}
use Rattle.std.specs.Vec.{vec_capacity}
use Rattle.graph_nodes.proofs.Raised.{IsLifting}
use Rattle.graph_nodes.proofs.raising.lift.Given as goal

abbrev pub invariant-loop-i : goal.invariant-loop-i
invariant-loop-i l = IsLifting l.ahead.members l.l l.i l.fn.level.items l.level.items l.fn.near l.near × (vec_capacity l.fn.level ≤ vec_capacity l.level)
