use Rattle.std.proofs.Common.{sym, subst, refl, List, length, None}
use Rattle.std.specs.Prelude.{Result}
use Rattle.disk_model.specs.Disk.{Disk, LeavesOnly}
use Rattle.formats.specs.Objects.{bounds_of}
use Rattle.formats.specs.declared.params.Params.{Params}
use Rattle.stable_objects.specs.declared.open_err.OpenErr.{OpenErr}
use Rattle.restart.specs.Courses.{redo_marks}
use Rattle.restart.specs.Damage.{IsReported}
use Rattle.restart.specs.Opening.{IsJudged, IsOpening, OpensOn}
use Rattle.restart.specs.Starts.{OrAtStart}
use Rattle.standing.specs.OneStable.{small_store}
use Rattle.store_engine.specs.Engine.{Between, EngineView, Opens, engine_of, opened}
use Rattle.store_engine.specs.ImageLaws.{stands_end}
use Rattle.store_engine.specs.Store.{meaning_in}
use Rattle.store_engine.proofs.Reopening.{restart_holds, restart_images, restart_stands}
use Rattle.store_engine.proofs.Ways.{error_from}
use Rattle.store_engine.proofs.engine.Engine.restart.Given.{Over}
use Rattle.store_engine.proofs.engine.Engine.restart.Goals.{After-restart}
use Rattle.store_engine.proofs.engine.Engine.restart.Goals as goal

pub returns-in_err-store-clause-opening : goal.returns-in_err-store-clause-opening
returns-in_err-store-clause-opening g c =
    subst (λ (r : Result EngineView OpenErr). IsOpening g.O.Oper.meaning (g.M.Machine.disk c.args.machine.now) (g.M.Machine.disk c.restart.new.machine) (opened r)) (sym (error_from c.from_residual.result _ c.from_residual.ensures.1)) c.in_err-store.ensures.opening

pub returns-in_err-store-clause-judged : goal.returns-in_err-store-clause-judged
returns-in_err-store-clause-judged g c = λ told.
    subst (λ (r : Result EngineView OpenErr). IsJudged g.O.Oper.meaning (g.M.Machine.disk c.args.machine.now) (g.M.Machine.disk c.restart.new.machine) (opened r)) (sym (error_from c.from_residual.result _ c.from_residual.ensures.1))
    (c.in_err-store.ensures.judged told)

pub returns-in_err-store-clause-reported : goal.returns-in_err-store-clause-reported
returns-in_err-store-clause-reported g c =
    subst (λ (r : Result EngineView OpenErr). IsReported g.O.Oper.meaning (g.M.Machine.disk c.args.machine.now) (g.M.Machine.disk c.restart.new.machine) (opened r)) (sym (error_from c.from_residual.result _ c.from_residual.ensures.1)) c.in_err-store.ensures.reported

pub returns-clause-opening : goal.returns-clause-opening
returns-clause-opening g c = c.in_ok-store.ensures.opening

pub returns-clause-judged : goal.returns-clause-judged
returns-clause-judged g c = c.in_ok-store.ensures.judged

pub returns-clause-reported : goal.returns-clause-reported
returns-clause-reported g c = c.in_ok-store.ensures.reported

pub returns-clause-ready : goal.returns-clause-ready
returns-clause-ready g c = let fresh = c.in_ok-store.ensures.fresh in (fresh.unbroken, refl, refl, fresh.uncounted, c.in_ok-store.ensures.opening.attached)

pub returns-clause-follows : goal.returns-clause-follows
returns-clause-follows g c = c.in_ok-store.ensures.follows

-- of each list of commands that the files stand for
module _ (g : Over) (c : After-restart g) where
  abbrev old : Disk
  old = g.M.Machine.disk c.args.machine.now

  abbrev new : Disk
  new = g.M.Machine.disk c.restart.new.machine

  images : old.tells_moments → (p : Params) (commands : List g.row.O.Denot) → Opens g.O.Oper.meaning p old commands
      → LeavesOnly old new (OrAtStart old (Between g.O.Oper.meaning p old None (length commands) (length commands) commands))
  images told p commands opens =
      let m = meaning_in g.O.Oper.meaning p in
      let place = stands_end g.O.Oper.meaning opens.stands in
      let there = c.files_show_a_world.ensures p old.reads commands opens.stands in
      let w = there.0 in
      let found = there.1 in
      let on : OpensOn m p old place.0 w = record { told = opens.told; sound = found.sound; shows = found.shows; ends = place.1 } in
      let small = small_store p (old.reads _) found.shows.objects in
      restart_images g.O.Oper.meaning p old new commands w found (redo_marks c.args.tuning p) place.0 small
      (λ b w steps. c.every_run_keeps.ensures.from_sound b w steps) (λ files w. c.image_stands.ensures p files w) (c.a_restart_may_be_made.ensures.allowed (bounds_of p) w (redo_marks c.args.tuning p) place.0 small found.sound)
      (c.restart.ensures.steps told p place.0 w on)

  again : old.tells_moments → (p : Params) (commands : List g.row.O.Denot) → Opens g.O.Oper.meaning p old commands → Opens g.O.Oper.meaning p new commands
  again told p commands opens =
      let m = meaning_in g.O.Oper.meaning p in
      let place = stands_end g.O.Oper.meaning opens.stands in
      let there = c.files_show_a_world.ensures p old.reads commands opens.stands in
      let w = there.0 in
      let found = there.1 in
      let on : OpensOn m p old place.0 w = record { told = opens.told; sound = found.sound; shows = found.shows; ends = place.1 } in
      let small = small_store p (old.reads _) found.shows.objects in
      record {
        told = c.restart.ensures.opening.time.files_told.0 opens.told;
        stands = restart_stands g.O.Oper.meaning p old new commands w found (redo_marks c.args.tuning p) place.0 small
            (λ b w steps. c.every_run_keeps.ensures.from_sound b w steps) (λ files w. c.image_stands.ensures p files w) (c.a_restart_may_be_made.ensures.allowed (bounds_of p) w (redo_marks c.args.tuning p) place.0 small found.sound)
            (c.restart.ensures.reads told p place.0 w on);
      }

pub returns-in_err-store-clause-images : goal.returns-in_err-store-clause-images
returns-in_err-store-clause-images g c = images g (goal.at.returns-in_err-store-clause-images g c).After-restart

pub returns-clause-images : goal.returns-clause-images
returns-clause-images g c = images g (goal.at.returns-clause-images g c).After-restart

pub returns-in_err-store-clause-again : goal.returns-in_err-store-clause-again
returns-in_err-store-clause-again g c = again g (goal.at.returns-in_err-store-clause-again g c).After-restart

pub returns-clause-again : goal.returns-clause-again
returns-clause-again g c = again g (goal.at.returns-clause-again g c).After-restart

pub returns-clause-holds : goal.returns-clause-holds
returns-clause-holds g c = λ p commands opens.
    let at = (goal.at.returns-clause-holds g c).After-restart in
    let m = meaning_in g.O.Oper.meaning p in
    let place = stands_end g.O.Oper.meaning opens.stands in
    let there = c.files_show_a_world.ensures p (old g at).reads commands opens.stands in
    let w = there.0 in
    let found = there.1 in
    let on : OpensOn m p (old g at) place.0 w = record { told = opens.told; sound = found.sound; shows = found.shows; ends = place.1 } in
    let fresh = c.in_ok-store.ensures.fresh in
    restart_holds g.O.Oper.meaning p (old g at) (new g at) commands w found (redo_marks c.args.tuning p) place.0 (engine_of c.in_ok-store.store None None) fresh.unbroken refl (c.in_ok-store.ensures.follows p place.0 w on)
