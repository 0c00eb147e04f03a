use Rattle.std.proofs.Common.{subst, sym}
use Rattle.std.specs.Prelude.{IfErr, IfOk}
use Rattle.disk_model.specs.Disk.{Files}
use Rattle.disk_model.specs.Moments.{stays_twice, told_agrees}
use Rattle.disk_model.specs.declared.machine.FileNo.TheVariants.{Objects}
use Rattle.stable_objects.specs.SlotsView.{AreOf}
use Rattle.redo_check.specs.Checking.{IsRestart}
use Rattle.tool_output.specs.Found.{IsLogStopped, IsStopped}
use Rattle.tool_output.specs.Stops.{stop_from_open}
use Rattle.tool_output.specs.FaultLaws.{counted_later, open_counted}
use Rattle.redo_check.proofs.JudgeLemmas.{all_stopped}
use Rattle.tool_output.specs.FoundLaws.{objects_damaged, stopped_by, unopened}
use Rattle.redo_check.proofs.judging.judge.Goals as goal

pub returns-in_err-slots-clause-cause : goal.returns-in_err-slots-clause-cause
returns-in_err-slots-clause-cause g c told =
    let files = (g.M.Machine.disk c.args.machine.now).reads in
    let agrees = told_agrees c.load.ensures.kept told in
    stopped_by c.from_residual.result (stop_from_open c.in_err-slots.field-0.0) (IsStopped files) c.from_residual.ensures.1
    (unopened files _ _ _ c.in_err-slots.field-0.0 (λ none. none files agrees) (λ file place is. objects_damaged files file place is.0 (is.1 files agrees)) c.in_err-slots.ensures.cause)

pub returns-clause-kept : goal.returns-clause-kept
returns-clause-kept g c = stays_twice _ _ _ c.load.ensures.kept c.judge_log-judged.ensures.kept

pub returns-clause-whole : goal.returns-clause-whole
returns-clause-whole g c told =
    let kept = c.load.ensures.kept in
    let files = (g.M.Machine.disk c.args.machine.now).reads in
    let are = c.in_ok-slots.ensures.read files (told_agrees kept told) in
    subst (λ (f : Files). IfOk c.judge_log-judged.result (IsRestart f)) (kept.reads told)
    (c.judge_log-judged.ensures.whole (kept.time.files_told.0 told) (subst (λ (f : Files). AreOf c.in_ok-slots.slots (f Objects)) (sym (kept.reads told)) are))

pub returns-clause-cause : goal.returns-clause-cause
returns-clause-cause g c told =
    let kept = c.load.ensures.kept in
    let files = (g.M.Machine.disk c.args.machine.now).reads in
    let are = c.in_ok-slots.ensures.read files (told_agrees kept told) in
    all_stopped files c.judge_log-judged.result (subst (λ (f : Files). IfErr c.judge_log-judged.result (IsLogStopped f)) (kept.reads told)
    (c.judge_log-judged.ensures.cause (kept.time.files_told.0 told) (subst (λ (f : Files). AreOf c.in_ok-slots.slots (f Objects)) (sym (kept.reads told)) are)))

pub returns-in_err-slots-clause-faults : goal.returns-in_err-slots-clause-faults
returns-in_err-slots-clause-faults g c = stopped_by c.from_residual.result (stop_from_open c.in_err-slots.field-0.0) _ c.from_residual.ensures.1 (open_counted (g.M.Machine.disk c.args.machine.now) (g.M.Machine.disk c.load.new.machine) _ _ c.in_err-slots.field-0.0 c.in_err-slots.ensures.cause)

pub returns-clause-faults : goal.returns-clause-faults
returns-clause-faults g c = counted_later (g.M.Machine.disk c.args.machine.now) (g.M.Machine.disk c.load.new.machine) (g.M.Machine.disk c.judge_log-judged.new.machine) c.judge_log-judged.result c.load.ensures.kept.time c.judge_log-judged.ensures.faults
