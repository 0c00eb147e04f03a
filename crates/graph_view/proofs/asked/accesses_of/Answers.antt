use Rattle.std.specs.Prelude.{false}
use Rattle.graph_view.proofs.asked.accesses_of.Goals as goal

pub returns : goal.returns
returns c = c.of.ensures (record { objects = 0; cap = 0; more = false })
