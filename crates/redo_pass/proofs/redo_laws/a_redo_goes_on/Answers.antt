use Rattle.disk_model.specs.declared.machine.FileNo.TheVariants.{Objects}
use Rattle.formats.specs.Objects.{bounds_of}
use Rattle.explain_core.specs.Turns.{turns}
use Rattle.explain_core.specs.World.{run}
use Rattle.explain_core.specs.World.Step.{Replay}
use Rattle.standing.specs.Crashed.{crashed-stable}
use Rattle.standing.specs.OneStable.{small_store}
use Rattle.redo_pass.proofs.Goes.{replay_turned, limited_so_far}
use Rattle.redo_pass.proofs.redo_laws.a_redo_goes_on.Goals as goal

pub returns-clause-replayed : goal.returns-clause-replayed
returns-clause-replayed g c p files after marks turned w sound crashed enough left files_show store_shows =
    let m = g.O.Oper.meaning (bounds_of p) in
    let v = run m w (turns m marks turned w) in
    let small = small_store p (files Objects) files_show.objects in
    let sound_then = c.turns_keep.ensures.sound (bounds_of p) w marks turned small sound (crashed-stable m w crashed sound) in
    replay_turned m p marks w files after turned enough left (c.unseen_steps_change_nothing.ensures p files v Replay sound_then tt files_show) store_shows

pub returns-clause-limited : goal.returns-clause-limited
returns-clause-limited g c p files it marks turned w rest is members = limited_so_far (g.O.Oper.meaning (bounds_of p)) p marks w files it turned rest is members
