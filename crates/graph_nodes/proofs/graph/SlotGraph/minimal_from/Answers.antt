use Rattle.graph_nodes.specs.Named.{Graph, NamesMinimal}
use Rattle.graph_nodes.proofs.Told.{told-iff, next-least, next-none}
use Rattle.graph_nodes.proofs.graph.SlotGraph.minimal_from.Goals as goal

pub returns-clause-some : goal.returns-clause-some
returns-clause-some c =
    let g : Graph = record { arcs = c.self.inside.arcs.cells; node = c.self.inside.node.items; held = c.self.inside.held.items; room = c.self.inside.room } in
    let kept = c.self.invariant.0 in
    let names = c.self.inside.names in
    rw (← c.self.view_is) (next-least names.minimal (λ k. NamesMinimal g k) c.args.from c.next_minimal.result (λ k. told-iff g c.self.inside.into names k kept.named kept.led c.self.invariant.4) c.next_minimal.ensures)

pub returns-clause-none : goal.returns-clause-none
returns-clause-none c =
    let g : Graph = record { arcs = c.self.inside.arcs.cells; node = c.self.inside.node.items; held = c.self.inside.held.items; room = c.self.inside.room } in
    let kept = c.self.invariant.0 in
    let names = c.self.inside.names in
    rw (← c.self.view_is) (next-none names.minimal (λ k. NamesMinimal g k) c.args.from c.next_minimal.result (λ k. told-iff g c.self.inside.into names k kept.named kept.led c.self.invariant.4) c.next_minimal.ensures)
