use Rattle.std.proofs.Common.{◌≡◌, inl, ap, take}
use Rattle.disk_model.specs.Disk.{Disk, LeavesOnly, Rises}
use Rattle.disk_model.specs.declared.machine.FileNo.TheVariants.{Objects}
use Rattle.explain_core.specs.History.{commands_of}
use Rattle.explain_core.specs.World.{World}
use Rattle.formats.specs.Objects.{bounds_of}
use Rattle.formats.specs.declared.params.Params.{Params}
use Rattle.store_engine.specs.Engine.{EngineView}
use Rattle.store_engine.specs.Store.{meaning_in}
use Rattle.backup_copy.specs.Calls.{IsShutOrWhole}
use Rattle.backup_copy.specs.Copies.{Copies}
use Rattle.backup_copy.specs.Target.{IsBackup, open_files}
use Rattle.backup_copy.proofs.Copied.{copied_beside}
use Rattle.backup_copy.proofs.CopiedLog.{copy_cause, copy_failed, copy_left, copy_long, copy_within, refused_told}
use Rattle.backup_copy.proofs.Ends.{error_from}
use Rattle.log_blocks.specs.Creating.{IsNewLog}
use Rattle.backup_copy.proofs.Passed.{read_so}
use Rattle.backup_copy.proofs.Saved.{StandsBy, opened_stands, part_beside, saved, saving, settled_beside, shut_after, shut_meanwhile, standing_backup}
use Rattle.backup_copy.proofs.finishing.save.Given.{Over}
use Rattle.backup_copy.proofs.finishing.save.Goals.{After-open}
use Rattle.backup_copy.proofs.finishing.save.Goals as goal

pub returns-in_err-copy_log-clause-read : goal.returns-in_err-copy_log-clause-read
returns-in_err-copy_log-clause-read g c =
    read_so g.O.Oper.meaning (g.M.Machine.disk c.args.machine.now) (g.M.Machine.disk c.copy_log.new.machine) c.args.engine.now c.copy_log.new.self c.copy_log.ensures.read
    (copy_failed c.copy_log.result c.in_err-copy_log.field-0.0 c.from_residual.result c.in_err-copy_log.was (error_from c.from_residual.result _ c.from_residual.ensures.1))

pub returns-in_err-copy_log-clause-moments : goal.returns-in_err-copy_log-clause-moments
returns-in_err-copy_log-clause-moments g c told = λ p w is all.
    let t = g.T.Machine.disk c.args.target.now in
    let run = c.copy_log.ensures.runs in
    let part = is.target (run.begins.telling told) in
    shut_meanwhile t (g.T.Machine.disk c.copy_log.new.target) run (IsShutOrWhole g.O.Oper.meaning p (commands_of (take w.forced w.history)) t) told (part.shut told) (λ files said shut same. (inl shut, same))

pub returns-in_err-copy_log-clause-again : goal.returns-in_err-copy_log-clause-again
returns-in_err-copy_log-clause-again g c = λ p w is.
    let old = g.M.Machine.disk c.args.machine.now in
    let new = g.M.Machine.disk c.copy_log.new.machine in
    let t = g.T.Machine.disk c.args.target.now in
    let t' = g.T.Machine.disk c.copy_log.new.target in
    let run = c.copy_log.ensures.runs in
    copy_left c.copy_log.result c.in_err-copy_log.field-0.0 c.from_residual.result c.in_err-copy_log.was (error_from c.from_residual.result _ c.from_residual.ensures.1)
    (c.copy_log.ensures.read.shows p w is.shows) (refused_told c.copy_log.result t.tells_files (IsNewLog t'.reads) (λ told. c.copy_log.ensures.refused told (is.target told).log))
    (λ shows log. copied_beside g.O.Oper.meaning p old new c.args.engine.now c.copy_log.new.self w t t' (ap (λ (e : EngineView). e.copied) c.copy_log.ensures.read.engine) shows
    is (λ told. let before = run.time.files_told.1 told in part_beside t t' run p is.done is.cells before (is.target before) (log before)))

pub returns-in_err-copy_log-clause-cause : goal.returns-in_err-copy_log-clause-cause
returns-in_err-copy_log-clause-cause g c =
    let old = g.M.Machine.disk c.args.machine.now in
    let new = g.M.Machine.disk c.copy_log.new.machine in
    copy_cause g.O.Oper.meaning old new (Rises old.disk_faults new.disk_faults) (Rises (g.T.Machine.disk c.args.target.now).disk_faults (g.T.Machine.disk c.copy_log.new.target).disk_faults) c.args.engine.now c.copy_log.new.self
    c.copy_log.result c.in_err-copy_log.field-0.0 c.from_residual.result (ap (λ (e : EngineView). e.parts) c.copy_log.ensures.read.engine) c.in_err-copy_log.was (error_from c.from_residual.result _ c.from_residual.ensures.1) c.copy_log.ensures.cause

pub returns-in_err-copy_log-clause-long : goal.returns-in_err-copy_log-clause-long
returns-in_err-copy_log-clause-long g c = λ p w shows.
    let old = g.M.Machine.disk c.args.machine.now in
    let new = g.M.Machine.disk c.copy_log.new.machine in
    copy_long g.O.Oper.meaning old new (Rises old.disk_faults new.disk_faults) (Rises (g.T.Machine.disk c.args.target.now).disk_faults (g.T.Machine.disk c.copy_log.new.target).disk_faults) p w c.args.engine.now
    shows (c.a_copied_log_is_of_the_world.ensures.keeps p c.args.machine.now c.args.engine.now w shows)
    c.copy_log.result c.in_err-copy_log.field-0.0 c.from_residual.result c.in_err-copy_log.was (error_from c.from_residual.result _ c.from_residual.ensures.1) c.copy_log.ensures.cause

module _ (g : Over) (c : After-open g) where
  abbrev old : Disk
  old = g.M.Machine.disk c.args.machine.now

  abbrev t : Disk
  t = g.T.Machine.disk c.args.target.now

  abbrev mid : Disk
  mid = g.T.Machine.disk c.copy_log.new.target

  stands : (p : Params) (w : World g.row.O.Denot) (is : Copies g.O.Oper.meaning p old c.args.engine.now w t) → is.done ≡ p.objects → t.tells_files → StandsBy g.O.Oper.meaning p (take w.forced w.history) (open_files mid.reads)
  stands p w is all told =
      let law = c.a_copied_log_is_of_the_world.ensures in
      let copy = c.copy_stands.ensures in
      let part = is.target told in
      let keeps = law.keeps p c.args.machine.now c.args.engine.now w is.shows in
      let copied = c.in_ok-copy_log.ensures.copied is.shows.shows.told told part.log is.shows.shows.log.stable is.shows.shows.log.pending keeps in
      opened_stands g.O.Oper.meaning p old c.args.engine.now w t mid.reads is.done is.cells (λ w copied cells sound is. copy.stands (bounds_of p) w copied cells sound is) (λ w copied cells sound is. copy.with_checkpoint (bounds_of p) w copied cells sound is)
      is.shows is.copied all part ((c.copy_log.ensures.runs.reads told).others Objects (λ e. cc)) (law.holds p c.args.machine.now c.args.engine.now w mid.reads is.shows copied)

  moments : t.tells_moments → (p : Params) (w : World g.row.O.Denot) (is : Copies g.O.Oper.meaning p old c.args.engine.now w t) → is.done ≡ p.objects
      → LeavesOnly t (g.T.Machine.disk c.open.new.target) (IsShutOrWhole g.O.Oper.meaning p (commands_of (take w.forced w.history)) t)
  moments told p w is all =
      let run = c.copy_log.ensures.runs in
      let files_told = run.begins.telling told in
      let part = is.target files_told in
      saving g.O.Oper.meaning p (commands_of (take w.forced w.history)) t mid (g.T.Machine.disk c.open.new.target) run (stands p w is all files_told).0 is.done is.cells told part
      (c.open.ensures.moments (run.time.moments_told.0 told) (settled_beside t mid run files_told part.settled) c.in_ok-copy_log.ensures.settled (shut_after t mid run p is.done is.cells files_told part))

pub returns-in-Ok-clause-read : goal.returns-in-Ok-clause-read
returns-in-Ok-clause-read g c = read_so g.O.Oper.meaning (g.M.Machine.disk c.args.machine.now) (g.M.Machine.disk c.copy_log.new.machine) c.args.engine.now c.copy_log.new.self c.in_ok-copy_log.ensures.read (λ failed. cc, λ failed. cc)

pub returns-in-Err-clause-read : goal.returns-in-Err-clause-read
returns-in-Err-clause-read g c = read_so g.O.Oper.meaning (g.M.Machine.disk c.args.machine.now) (g.M.Machine.disk c.copy_log.new.machine) c.args.engine.now c.copy_log.new.self c.in_ok-copy_log.ensures.read (λ failed. cc, λ failed. cc)

pub returns-in-Ok-clause-saved : goal.returns-in-Ok-clause-saved
returns-in-Ok-clause-saved g c = λ p w is all told.
    let at = (goal.at.returns-in-Ok-clause-saved g c).After-open in
    let h = take w.forced w.history in
    let run = c.copy_log.ensures.runs in
    let files = open_files (mid g at).reads in
    saved files (g.T.Machine.disk c.open.new.target) (IsBackup (meaning_in g.O.Oper.meaning p) p h)
    (standing_backup g.O.Oper.meaning p h files (λ parts h installed small is. c.stable_parts_stand.ensures.sound (bounds_of p) parts h installed small is) (stands g at p w is all told))
    (c.in-Ok.ensures.opened (run.time.files_told.0 told) (settled_beside (t g at) (mid g at) run told (is.target told).settled) c.in_ok-copy_log.ensures.settled)

pub returns-in-Ok-clause-moments : goal.returns-in-Ok-clause-moments
returns-in-Ok-clause-moments g c told = λ p w is all. moments g (goal.at.returns-in-Ok-clause-moments g c).After-open told p w is all

pub returns-in-Err-clause-moments : goal.returns-in-Err-clause-moments
returns-in-Err-clause-moments g c told = λ p w is all. moments g (goal.at.returns-in-Err-clause-moments g c).After-open told p w is all

pub returns-in-Ok-clause-long : goal.returns-in-Ok-clause-long
returns-in-Ok-clause-long g c = λ p w shows.
    let old = g.M.Machine.disk c.args.machine.now in
    copy_within g.O.Oper.meaning old (g.M.Machine.disk c.copy_log.new.machine) ⊥ ⊥ p w c.args.engine.now shows
    (c.a_copied_log_is_of_the_world.ensures.keeps p c.args.machine.now c.args.engine.now w shows) c.in_ok-copy_log.ensures.within
