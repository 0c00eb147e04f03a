use Rattle.std.proofs.Common.{◌≤◌, ◌-◌}
use Rattle.std.specs.Vec.{vec_capacity}
use Rattle.graph_nodes.specs.Ahead.{IsGoingOn}
use Rattle.graph_nodes.specs.Kept.{IsWide}
use Rattle.graph_nodes.proofs.ahead.find_low.Given as goal

abbrev pub invariant-steps : goal.invariant-steps
invariant-steps l = IsGoingOn l.nodes.arcs.now.cells l.nodes.node.now l.level l.l l.w l.next l.ahead.members × IsWide l.fn.ahead l.ahead × (vec_capacity l.fn.slots ≤ vec_capacity l.slots)

abbrev pub decreases-steps : goal.decreases-steps
decreases-steps l = l.ahead.end - l.next
