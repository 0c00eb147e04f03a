use Rattle.std.proofs.Common.{refl, arith}
use Rattle.explain_core.proofs.Runs.{sound-map}
use Rattle.explain_core.proofs.WorkedRuns.{steps-sound, redone-allowed}
use Rattle.explain_core.specs.World.{step, run}
use Rattle.explain_core.specs.Worked.{two, after_steps, swap_redone}
use Rattle.explain_core.specs.ByteOps.{byte_meaning}
use Rattle.explain_core.proofs.worked.swap_is_redone.Goals as goal

pub returns : goal.returns
unfolding step run
returns c = record {
  allowed = redone-allowed;
  skipped = (refl, refl);
  applied = (refl, refl);
  wrong = refl;
  healed = (refl, refl);
  live = omega arith;
  map = sound-map (byte_meaning two) (after_steps (swap_redone 4)) (omega arith) (steps-sound (swap_redone 4) redone-allowed);
}
