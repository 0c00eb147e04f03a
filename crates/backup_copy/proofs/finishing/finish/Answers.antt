use Rattle.std.proofs.Common.{◌≡◌, ◌∙◌, ⊎_elim, ℕ, sym, ap, take, subst, refl}
use Rattle.std.specs.Prelude.{Result, Ok, Err, OnOk}
use Rattle.disk_model.specs.Disk.{Disk, LeavesOnly, Rises}
use Rattle.disk_model.specs.declared.machine.Failed.{Failed}
use Rattle.formats.specs.declared.params.Params.{Params}
use Rattle.log_records.specs.Loading.{IsTailFault}
use Rattle.explain_core.specs.History.{commands_of}
use Rattle.explain_core.specs.World.{World, run}
use Rattle.running_store.specs.Courses.{force_steps}
use Rattle.store_engine.specs.Calls.{IsForcing}
use Rattle.store_engine.specs.Engine.{EngineView, InEachImage}
use Rattle.store_engine.specs.Store.{meaning_in}
use Rattle.backup_copy.specs.Calls.{ForcesFirst, HasLength, IsShutOrWhole, copied_by_finish}
use Rattle.backup_copy.specs.Copies.{Copies}
use Rattle.backup_copy.specs.Length.{backup_length}
use Rattle.backup_copy.specs.Refusals.{judge_finish}
use Rattle.backup_copy.specs.Target.{IsBackup}
use Rattle.backup_copy.specs.declared.backup_err.BackupErr.{BackupErr}
use Rattle.backup_copy.specs.declared.backup_err.BackupErr.TheVariants.{DiskFault, Damaged}
use Rattle.backup_copy.proofs.Begun.{if_judged}
use Rattle.backup_copy.proofs.Ends.{error_from, same_error}
use Rattle.backup_copy.proofs.Finished.{again_so, all_done, cause_noted, counted_so, errors_same, forced_copies, forced_ok, forced_so, forced_still, length_later, shut_first}
use Rattle.backup_copy.proofs.Forced.{forced_stable}
use Rattle.backup_copy.proofs.Saved.{backup_stands}
use Rattle.backup_copy.proofs.finishing.finish.Given.{Over}
use Rattle.backup_copy.proofs.finishing.finish.Goals.{After-note}
use Rattle.backup_copy.proofs.finishing.finish.Goals as goal

module _ (g : Over) (c : After-note g) where
  abbrev old : Disk
  old = g.M.Machine.disk c.args.machine.now

  abbrev mid : Disk
  mid = g.M.Machine.disk c.force.new.machine

  abbrev new : Disk
  new = g.M.Machine.disk c.save-saved.new.machine

  abbrev t : Disk
  t = g.T.Machine.disk c.args.target.now

  abbrev t' : Disk
  t' = g.T.Machine.disk c.save-saved.new.target

  forced : IsForcing g.O.Oper.meaning old mid c.args.engine.now c.force.new.engine (Ok c.in_ok-commands.commands)
  forced = subst (λ (r : Result ℕ Failed). IsForcing g.O.Oper.meaning old mid c.args.engine.now c.force.new.engine r) (forced_ok c.force.ensures.0 c.in_ok-commands.commands (sym c.force.ensures.1 ∙ c.in_ok-commands.was)) c.force.ensures.2

  judged : judge_finish c.args.engine.now ≡ Ok tt
  judged = sym c.may_finish.ensures ∙ c.in_ok-may_finish.was

  abbrev world : (p : Params) → World g.row.O.Denot → World g.row.O.Denot
  world p w = run (meaning_in g.O.Oper.meaning p) w (force_steps (meaning_in g.O.Oper.meaning p) w)

  copies : (p : Params) (w : World g.row.O.Denot) → Copies g.O.Oper.meaning p old c.args.engine.now w t → Copies g.O.Oper.meaning p mid c.force.new.engine (world p w) t
  copies p w is = forced_copies g.O.Oper.meaning p w old mid c.args.engine.now c.force.new.engine t c.in_ok-commands.commands
      (λ b copied cells w steps taken small sound is may begins. c.a_copy_goes_on.ensures.some b copied cells w steps taken small sound is may begins)
      (λ b copied w used small running. c.calls_go_beside_a_copy.ensures.force b copied w used small running) judged forced is

  done : (p : Params) (w : World g.row.O.Denot) (is : Copies g.O.Oper.meaning p old c.args.engine.now w t) → (copies p w is).done ≡ p.objects
  done p w is = all_done g.O.Oper.meaning p w old mid c.args.engine.now c.force.new.engine t (world p w) judged forced.call.copied is.shows (copies p w is)

  history : (p : Params) (w : World g.row.O.Denot) → Copies g.O.Oper.meaning p old c.args.engine.now w t → take (world p w).forced (world p w).history ≡ w.history
  history p w is = forced_stable (meaning_in g.O.Oper.meaning p) w is.shows.sound.forced

  moments : t.tells_moments → (p : Params) (w : World g.row.O.Denot) → Copies g.O.Oper.meaning p old c.args.engine.now w t → LeavesOnly t t' (IsShutOrWhole g.O.Oper.meaning p (commands_of w.history) t)
  moments told p w is =
      subst (λ h. LeavesOnly t t' (IsShutOrWhole g.O.Oper.meaning p (commands_of h) t)) (history p w is) (c.save-saved.ensures.moments told p (world p w) (copies p w is) (done p w is))

  -- each image at the end is a backup
  backed : c.save-saved.result ≡ Ok tt → t.tells_files → (p : Params) (w : World g.row.O.Denot) → Copies g.O.Oper.meaning p old c.args.engine.now w t → InEachImage t' (IsBackup (meaning_in g.O.Oper.meaning p) p w.history)
  backed was told p w is =
      let m = meaning_in g.O.Oper.meaning p in
      subst (λ h. InEachImage t' (IsBackup m p h)) (history p w is)
      (subst (λ (r : Result (Unit {0}) BackupErr). OnOk r (InEachImage t' (IsBackup m p (take (world p w).forced (world p w).history)))) was (c.save-saved.ensures.saved p (world p w) (copies p w is) (done p w is) told))

pub returns-in_err-may_finish-clause-moments : goal.returns-in_err-may_finish-clause-moments
returns-in_err-may_finish-clause-moments g c told = λ p w is.
    shut_first g.O.Oper.meaning p (commands_of w.history) (g.M.Machine.disk c.args.machine.now) c.args.engine.now w (g.T.Machine.disk c.args.target.now) (g.met.T.Machine.lawful c.args.target.now) told is

pub returns-in_err-commands-clause-moments : goal.returns-in_err-commands-clause-moments
returns-in_err-commands-clause-moments g c told = λ p w is.
    shut_first g.O.Oper.meaning p (commands_of w.history) (g.M.Machine.disk c.args.machine.now) c.args.engine.now w (g.T.Machine.disk c.args.target.now) (g.met.T.Machine.lawful c.args.target.now) told is

pub returns-in_err-saved-clause-moments : goal.returns-in_err-saved-clause-moments
returns-in_err-saved-clause-moments g c told = λ p w is. moments g (goal.at.returns-in_err-saved-clause-moments g c).After-note told p w is

pub returns-clause-moments : goal.returns-clause-moments
returns-clause-moments g c told = λ p w is. moments g (goal.at.returns-clause-moments g c).After-note told p w is

pub returns-in_err-saved-clause-forces : goal.returns-in_err-saved-clause-forces
returns-in_err-saved-clause-forces g c =
    let at = (goal.at.returns-in_err-saved-clause-forces g c).After-note in
    let e = c.in_err-saved.field-0.0 in
    let is = error_from c.from_residual-in_err-saved.result _ c.from_residual-in_err-saved.ensures.1 in
    let read = c.save-saved.ensures.read in
    if_judged _ c.may_finish.result (judge_finish c.args.engine.now) tt c.may_finish.ensures c.in_ok-may_finish.was
    (subst (λ (r : Result ℕ BackupErr). ForcesFirst g.O.Oper.meaning (old g at) (new g at) c.args.engine.now c.note.new.engine r) (sym is)
    (forced_so g.O.Oper.meaning (old g at) (mid g at) (new g at) c.args.engine.now c.force.new.engine c.save-saved.new.engine c.in_ok-commands.commands (forced g at) (g.met.M.Machine.lawful c.force.new.machine) (g.met.M.Machine.lawful c.save-saved.new.machine)
    _ c.note.new.engine c.note.ensures e read (λ failed. errors_same c.save-saved.result e DiskFault c.in_err-saved.was failed) (λ same. c.in_err-saved.was ∙ ap (λ (k : BackupErr). Err k) same)
    (λ same. counted_so (Rises (mid g at).disk_faults (new g at).disk_faults) (Rises (t g at).disk_faults (t' g at).disk_faults) _ c.save-saved.new.engine c.save-saved.result (c.in_err-saved.was ∙ ap (λ (k : BackupErr). Err k) same) c.save-saved.ensures.cause)))

pub returns-in_err-saved-clause-again : goal.returns-in_err-saved-clause-again
returns-in_err-saved-clause-again g c = λ p w is.
    let at = (goal.at.returns-in_err-saved-clause-again g c).After-note in
    let e = c.in_err-saved.field-0.0 in
    let noted = subst (λ (r : Result (Unit {0}) BackupErr). c.note.new.engine ≡ record c.save-saved.new.engine { copied = copied_by_finish c.save-saved.new.engine.copied r }) c.in_err-saved.was c.note.ensures in
    if_judged _ c.may_finish.result (judge_finish c.args.engine.now) tt c.may_finish.ensures c.in_ok-may_finish.was
    (again_so g.O.Oper.meaning p (new g at) c.save-saved.new.engine c.note.new.engine (world g at p w) (t' g at) c.save-saved.result e c.from_residual-in_err-saved.result c.in_err-saved.was
    (error_from c.from_residual-in_err-saved.result _ c.from_residual-in_err-saved.ensures.1) noted (c.save-saved.ensures.again p (world g at p w) (copies g at p w is)))

pub returns-in_err-saved-clause-undamaged : goal.returns-in_err-saved-clause-undamaged
returns-in_err-saved-clause-undamaged g c told attached file place damaged =
    let at = (goal.at.returns-in_err-saved-clause-undamaged g c).After-note in
    let now = ⊎_elim (λ failed. absurd failed) (λ keeps. keeps attached) (forced g at).call.attached in
    c.save-saved.ensures.undamaged ((forced g at).call.time.files_told.0 told) now file place
    (same_error c.save-saved.result c.in_err-saved.field-0.0 c.from_residual-in_err-saved.result c.in_err-saved.was (error_from c.from_residual-in_err-saved.result _ c.from_residual-in_err-saved.ensures.1) (Damaged file place) damaged)

pub returns-in_err-saved-clause-cause : goal.returns-in_err-saved-clause-cause
returns-in_err-saved-clause-cause g c =
    let at = (goal.at.returns-in_err-saved-clause-cause g c).After-note in
    if_judged _ c.may_finish.result (judge_finish c.args.engine.now) tt c.may_finish.ensures c.in_ok-may_finish.was
    (cause_noted (old g at).disk_faults (mid g at).disk_faults (new g at).disk_faults (Rises (t g at).disk_faults (t' g at).disk_faults) (λ it. IsTailFault (g.O.Oper.meaning it.log.bounds) (new g at) it.log.log) c.save-saved.new.engine c.note.new.engine
    c.save-saved.result c.in_err-saved.field-0.0 c.from_residual-in_err-saved.result c.in_err-saved.was (error_from c.from_residual-in_err-saved.result _ c.from_residual-in_err-saved.ensures.1)
    (forced g at).call.time.disk_faults (ap (λ (v : EngineView). v.parts) c.note.ensures) c.save-saved.ensures.cause)

pub returns-in_err-saved-clause-long : goal.returns-in_err-saved-clause-long
returns-in_err-saved-clause-long g c = λ p w shows.
    let at = (goal.at.returns-in_err-saved-clause-long g c).After-note in
    length_later (backup_length (meaning_in g.O.Oper.meaning p) (world g at p w)) c.save-saved.result c.in_err-saved.field-0.0 c.from_residual-in_err-saved.result c.in_err-saved.was (error_from c.from_residual-in_err-saved.result _ c.from_residual-in_err-saved.ensures.1)
    (c.save-saved.ensures.long p (world g at p w) ((forced g at).takes.follows p w shows).1.shows)

pub returns-clause-forces : goal.returns-clause-forces
returns-clause-forces g c =
    let at = (goal.at.returns-clause-forces g c).After-note in
    if_judged _ c.may_finish.result (judge_finish c.args.engine.now) tt c.may_finish.ensures c.in_ok-may_finish.was
    (forced_still g.O.Oper.meaning (old g at) (mid g at) (new g at) c.args.engine.now c.force.new.engine c.save-saved.new.engine c.in_ok-commands.commands (forced g at) (g.met.M.Machine.lawful c.force.new.machine) (g.met.M.Machine.lawful c.save-saved.new.machine)
    _ c.note.new.engine c.note.ensures c.save-saved.ensures.read (λ failed. let was = sym c.in_ok-saved.was ∙ failed in cc was))

pub returns-clause-saved : goal.returns-clause-saved
returns-clause-saved g c = λ p w is.
    let at = (goal.at.returns-clause-saved g c).After-note in
    let counted = ((forced g at).forced p (commands_of w.history) (record { world = w; shows = is.shows; commands_are = refl })).0 in (
      counted,
      λ told.
          let all = backed g at c.in_ok-saved.was told p w is in
          let stands = backup_stands g.O.Oper.meaning p (λ files w sound shows. c.image_stands.ensures p files w sound shows) w.history in
          (stands (t' g at).reads all.0, λ moments files said left. stands files (all.1 moments files said left)),
    )

pub returns-clause-shows : goal.returns-clause-shows
returns-clause-shows g c = λ told p w is. backed g (goal.at.returns-clause-shows g c).After-note c.in_ok-saved.was told p w is

pub returns-clause-long : goal.returns-clause-long
returns-clause-long g c = λ p w shows.
    let at = (goal.at.returns-clause-long g c).After-note in
    subst (λ (r : Result (Unit {0}) BackupErr). HasLength (backup_length (meaning_in g.O.Oper.meaning p) (world g at p w)) r) c.in_ok-saved.was (c.save-saved.ensures.long p (world g at p w) ((forced g at).takes.follows p w shows).1.shows)
