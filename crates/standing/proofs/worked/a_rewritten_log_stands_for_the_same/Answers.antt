use Rattle.explain_core.specs.World.{step, run}
use Rattle.standing.specs.Worked.{small, small_steps, after_steps, rewritten_files}
use Rattle.standing.proofs.WorkedStore.{rewritten_shown}
use Rattle.standing.proofs.worked.a_rewritten_log_stands_for_the_same.Goals as goal

pub returns : goal.returns
unfolding step run
returns c = record {
  shows = rewritten_shown;
  stands = c.image_stands.ensures small rewritten_files (after_steps small_steps) c.a_small_store_stands.ensures.sound rewritten_shown;
}
