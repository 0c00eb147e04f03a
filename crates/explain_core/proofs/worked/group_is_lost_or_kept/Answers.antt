use Rattle.std.proofs.Common.{◌∷◌, refl, arith}
use Rattle.explain_core.proofs.Runs.{sound-map}
use Rattle.explain_core.proofs.WorkedRuns.{steps-sound, one-more, opened-allowed}
use Rattle.explain_core.specs.declared.byte_op.ByteOp.{ByteOp}
use Rattle.explain_core.specs.World.{step, run, AreAllowed, new_world, replays}
use Rattle.explain_core.specs.World.Step.{End, Block_gate, Crash}
use Rattle.explain_core.specs.Worked.{two, after_steps, group_opened, group_lost, group_kept}
use Rattle.explain_core.specs.ByteOps.{byte_meaning}
use Rattle.explain_core.proofs.worked.group_is_lost_or_kept.Goals as goal

lost-allowed : AreAllowed (byte_meaning two) (new_world ByteOp) group_lost
unfolding step run
lost-allowed = one-more group_opened (Crash ∷ replays 1) opened-allowed (tt, (omega arith, tt))

kept-allowed : AreAllowed (byte_meaning two) (new_world ByteOp) (group_kept 3)
unfolding step run
kept-allowed = one-more group_opened (End ∷ Block_gate ∷ Crash ∷ replays 3) opened-allowed (refl, ((omega arith, refl), (tt, (omega arith, (omega arith, (omega arith, tt))))))

pub returns : goal.returns
unfolding step run
returns c = record {
  lost_allowed = lost-allowed;
  inside = (refl, refl, refl);
  lost = (refl, refl, refl);
  lost_history = (refl, refl);
  lost_groups = refl;
  lost_map = sound-map (byte_meaning two) (after_steps group_lost) (omega arith) (steps-sound group_lost lost-allowed);
  kept_allowed = kept-allowed;
  kept = (refl, refl);
  kept_groups = refl;
  kept_map = sound-map (byte_meaning two) (after_steps (group_kept 3)) (omega arith) (steps-sound (group_kept 3) kept-allowed);
}
