use Rattle.std.proofs.Common.{subst}
use Rattle.std.specs.List.Sorted.{IsStrictlyIncreasing}
use Rattle.write_graph.specs.Graph.{Graph, lsns}
use Rattle.write_graph.proofs.Asked.{view-rising}
use Rattle.write_graph.proofs.graph.WriteGraph.len.Goals as goal

pub returns-clause-rising : goal.returns-clause-rising
returns-clause-rising c = subst (λ (g : Graph). IsStrictlyIncreasing (lsns g.entries)) c.self.view_is (view-rising c.self.inside.links.graph.held c.self.inside.entries.items c.self.invariant.0)
