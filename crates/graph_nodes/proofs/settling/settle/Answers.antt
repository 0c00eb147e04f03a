use Rattle.graph_nodes.proofs.Settled.{first-in}
use Rattle.graph_nodes.proofs.settling.settle.Goals as goal

pub is_from_outside-requires-clause-cell : goal.is_from_outside-requires-clause-cell
is_from_outside-requires-clause-cell c =
    let cell = c.in-Some.cell in
    (c.requires.cells cell (c.cells.invariant.fewer cell (first-in c.args.n cell c.cells.into c.pop.new.self c.in-Some.ensures))).0
