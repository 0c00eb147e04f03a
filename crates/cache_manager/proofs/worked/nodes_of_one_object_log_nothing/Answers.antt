use Rattle.std.proofs.Common.{refl}
use Rattle.explain_core.specs.World.{step, run}
use Rattle.cache_manager.proofs.worked.nodes_of_one_object_log_nothing.Goals as goal

pub returns : goal.returns
unfolding step run
returns c = (refl, refl, refl)
