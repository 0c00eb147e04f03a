use Rattle.std.proofs.Common.{refl}
use Rattle.explain_core.specs.World.{step, run}
use Rattle.checkpointing.proofs.worked.a_trim_keeps_what_is_not_installed.Goals as goal

pub returns : goal.returns
unfolding step run
returns c = record { both = refl; one = refl; worn = refl }
