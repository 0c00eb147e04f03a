use Rattle.std.proofs.Common.{refl, arith}
use Rattle.explain_core.proofs.Runs.{sound-map}
use Rattle.explain_core.proofs.WorkedRuns.{steps-sound, removed-allowed}
use Rattle.explain_core.specs.World.{step, run}
use Rattle.explain_core.specs.Worked.{two, after_steps, swap_removed}
use Rattle.explain_core.specs.ByteOps.{byte_meaning}
use Rattle.explain_core.proofs.worked.swap_is_flushed.Goals as goal

pub returns : goal.returns
unfolding step run
returns c = record {
  allowed = removed-allowed;
  slots = (refl, refl);
  cache = (refl, refl);
  graph = (refl, refl, refl, refl);
  map = sound-map (byte_meaning two) (after_steps swap_removed) (omega arith) (steps-sound swap_removed removed-allowed);
}
