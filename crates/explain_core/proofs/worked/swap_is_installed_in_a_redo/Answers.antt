use Rattle.std.proofs.Common.{◌++◌, refl, arith}
use Rattle.explain_core.proofs.Runs.{sound-map}
use Rattle.explain_core.proofs.WorkedRuns.{steps-sound, ended-allowed, again-allowed}
use Rattle.explain_core.specs.World.{step, run, replays}
use Rattle.explain_core.specs.Worked.{two, after_steps, swap_installed, swap_redone_again}
use Rattle.explain_core.specs.ByteOps.{byte_meaning}
use Rattle.explain_core.proofs.worked.swap_is_installed_in_a_redo.Goals as goal

pub returns : goal.returns
unfolding step run
returns c = record {
  allowed = ended-allowed;
  wrong = refl;
  map = sound-map (byte_meaning two) (after_steps (swap_installed ++ replays 1)) (omega arith) (steps-sound (swap_installed ++ replays 1) ended-allowed);
  allowed_again = again-allowed;
  healed = (refl, refl);
  map_again = sound-map (byte_meaning two) (after_steps (swap_redone_again 4)) (omega arith) (steps-sound (swap_redone_again 4) again-allowed);
}
