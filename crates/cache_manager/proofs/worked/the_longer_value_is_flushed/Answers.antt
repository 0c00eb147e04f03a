use Rattle.std.proofs.Common.{refl}
use Rattle.explain_core.specs.World.{step, run}
use Rattle.cache_manager.proofs.worked.the_longer_value_is_flushed.Goals as goal

pub returns : goal.returns
unfolding step run
returns c = record { flushed = refl; logged = refl; used = refl }
