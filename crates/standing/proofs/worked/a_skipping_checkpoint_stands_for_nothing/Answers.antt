use Rattle.standing.proofs.SkippingCheckpoint.{skipping_stands}
use Rattle.standing.proofs.worked.a_skipping_checkpoint_stands_for_nothing.Goals as goal

pub returns : goal.returns
returns c = skipping_stands
