use Rattle.std.proofs.Common.{refl}
use Rattle.explain_core.proofs.Runs.{replayed_map}
use Rattle.explain_core.proofs.WorkedRuns.{two-lawful, steps-sound, checkpointed-allowed}
use Rattle.explain_core.specs.World.{step, run}
use Rattle.explain_core.specs.Worked.{two, after_steps, swap_checkpointed}
use Rattle.explain_core.specs.ByteOps.{byte_meaning}
use Rattle.explain_core.proofs.worked.swap_is_checkpointed.Goals as goal

pub returns-clause-allowed : goal.returns-clause-allowed
returns-clause-allowed c = checkpointed-allowed

pub returns-clause-plan : goal.returns-clause-plan
unfolding step run
returns-clause-plan c = (refl, refl, refl)

pub returns-clause-base : goal.returns-clause-base
unfolding step run
returns-clause-base c = (refl, refl, refl)

pub returns-clause-map : goal.returns-clause-map
returns-clause-map c = (replayed_map (byte_meaning two) two-lawful (after_steps swap_checkpointed) (steps-sound swap_checkpointed checkpointed-allowed)).2
