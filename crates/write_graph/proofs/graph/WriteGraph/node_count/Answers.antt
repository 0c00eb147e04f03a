use Rattle.std.proofs.Common.{◌≡◌, subst, ℕ, List, length}
use Rattle.write_graph.specs.Graph.{Graph, NamesNode, Lists}
use Rattle.write_graph.proofs.Asked.{slots-are, counted}
use Rattle.write_graph.proofs.graph.WriteGraph.node_count.Goals as goal

pub returns : goal.returns
returns c =
    let g = c.self.inside in
    let are = slots-are g.entries.items g.links.graph g.links.rows c.self.invariant.1 c.self.invariant.0 in
    let count = c.node_count.ensures in
    record { count = subst (λ (v : Graph). (xs : List ℕ) × Lists (NamesNode v.entries) xs × (c.node_count.result ≡ length xs)) c.self.view_is (counted c.slots_name_nodes.ensures.slots c.slots_name_nodes.ensures.names g.entries.items g.links.graph are count.0 c.node_count.result count.1 count.2) }
