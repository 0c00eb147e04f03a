use Rattle.std.proofs.Common.{refl}
use Rattle.explain_core.specs.World.{step, run}
use Rattle.checkpointing.proofs.worked.a_checkpoint_has_two_starts.Goals as goal

pub returns : goal.returns
unfolding step run
returns c = record { logged = refl; closing = refl; full = refl; none = refl }
