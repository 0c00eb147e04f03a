use Rattle.std.proofs.Common.{◌≡◌, ◌≤◌, ◌-◌}
use Rattle.std.specs.Vec.{vec_capacity}
use Rattle.graph_nodes.specs.Search.{IsSearching}
use Rattle.graph_nodes.specs.Kept.{IsWide}
use Rattle.graph_nodes.proofs.search.look.Given as goal

abbrev pub invariant-steps : goal.invariant-steps
invariant-steps l = IsSearching l.nodes.arcs.now.cells l.nodes.node.now l.near l.v l.stop l.searches.back.next l.searches.found.members × IsWide l.fn.searches.found l.searches.found × (l.searches.ahead ≡ l.fn.searches.ahead) × (vec_capacity l.fn.searches.cells ≤ vec_capacity l.searches.cells)

abbrev pub decreases-steps : goal.decreases-steps
decreases-steps l = l.searches.found.end - l.searches.back.next
