use Rattle.explain_core.specs.RoundRemovals.{stays_minimal}
use Rattle.explain_core.proofs.rounds.minimal_nodes_stay.Goals as goal

pub returns : goal.returns
returns c a g node other none is apart = stays_minimal a g node none other is apart
