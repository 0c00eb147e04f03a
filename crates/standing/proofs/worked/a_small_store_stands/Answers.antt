use Rattle.std.proofs.Common.{refl}
use Rattle.explain_core.specs.World.{step, run}
use Rattle.formats.specs.Objects.{bounds_of, form_in}
use Rattle.standing.specs.Worked.{small, small_steps, after_steps, right_checkpoint, files_with}
use Rattle.standing.proofs.WorkedStore.{small_bounds, AllSound, small-allowed, small_shown}
use Rattle.standing.proofs.worked.a_small_store_stands.Goals as goal

pub returns : goal.returns
unfolding step run form_in
returns c =
    let sound : AllSound = λ steps may. c.runs_of_bytes.ensures.sound (bounds_of small) steps small_bounds may in
    let may = small-allowed sound in
    record {
      allowed = may;
      sound = sound small_steps may;
      cells = (refl, refl);
      shows = small_shown;
      stands = c.image_stands.ensures small (files_with right_checkpoint) (after_steps small_steps) (sound small_steps may) small_shown;
    }
