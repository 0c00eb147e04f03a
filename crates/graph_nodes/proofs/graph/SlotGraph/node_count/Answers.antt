use Rattle.std.specs.Prelude.{IsTrue}
use Rattle.number_lists.specs.Marks.{mark_at}
use Rattle.graph_nodes.specs.Named.{Graph, IsName}
use Rattle.graph_nodes.proofs.Told.{names-iff, count-as}
use Rattle.graph_nodes.proofs.graph.SlotGraph.node_count.Goals as goal

pub returns : goal.returns
returns c =
    let g : Graph = record { arcs = c.self.inside.arcs.cells; node = c.self.inside.node.items; held = c.self.inside.held.items; room = c.self.inside.room } in
    let names = c.self.inside.names in
    rw (← c.self.view_is) (count-as (λ k. IsTrue (mark_at names.names k)) (λ k. IsName g k) c.count.result (λ k. names-iff g c.self.inside.into names k c.self.invariant.0.named c.self.invariant.4) c.count.ensures)
