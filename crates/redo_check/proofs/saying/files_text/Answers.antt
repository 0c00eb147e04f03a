use Rattle.disk_model.specs.Moments.{agreed_before, stays_twice}
use Rattle.tool_output.specs.FaultLaws.{fails_later}
use Rattle.redo_check.proofs.FileLemmas.{all_files}
use Rattle.redo_check.proofs.saying.files_text.Goals as goal

pub returns-in_err-push_log-clause-kept : goal.returns-in_err-push_log-clause-kept
returns-in_err-push_log-clause-kept g c = stays_twice _ _ _ c.push_objects.ensures.kept c.push_log.ensures.kept

pub returns-in_err-push_log-2-clause-kept : goal.returns-in_err-push_log-2-clause-kept
returns-in_err-push_log-2-clause-kept g c = stays_twice _ _ _ (stays_twice _ _ _ c.push_objects.ensures.kept c.push_log.ensures.kept) c.push_log-2.ensures.kept

pub returns-clause-kept : goal.returns-clause-kept
returns-clause-kept g c = stays_twice _ _ _ (stays_twice _ _ _ c.push_objects.ensures.kept c.push_log.ensures.kept) c.push_log-2.ensures.kept

pub returns-clause-text : goal.returns-clause-text
returns-clause-text g c files agrees =
    let second = agreed_before c.push_log-2.ensures.kept files agrees in
    let first = agreed_before c.push_log.ensures.kept files second in
    let one = c.in_ok-push_objects.ensures.text files first in
    let two = c.in_ok-push_log.ensures.text files second in
    all_files files c.new-text.result.items c.push_objects.new.text.items c.push_log.new.text.items c.push_log-2.new.text.items c.new-text.ensures.items one two (c.in_ok-push_log-2.ensures.text files agrees)

pub returns-in_err-push_log-clause-cause : goal.returns-in_err-push_log-clause-cause
returns-in_err-push_log-clause-cause g c = fails_later (g.M.Machine.disk c.args.machine.now) (g.M.Machine.disk c.push_objects.new.machine) (g.M.Machine.disk c.push_log.new.machine) _ c.from_residual-in_err-push_log.result c.in_err-push_log.field-0.0 c.push_objects.ensures.kept.time c.from_residual-in_err-push_log.ensures.1 c.in_err-push_log.ensures.cause

pub returns-in_err-push_log-2-clause-cause : goal.returns-in_err-push_log-2-clause-cause
returns-in_err-push_log-2-clause-cause g c = fails_later (g.M.Machine.disk c.args.machine.now) (g.M.Machine.disk c.push_log.new.machine) (g.M.Machine.disk c.push_log-2.new.machine) _ c.from_residual-in_err-push_log-2.result c.in_err-push_log-2.field-0.0 (stays_twice _ _ _ c.push_objects.ensures.kept c.push_log.ensures.kept).time c.from_residual-in_err-push_log-2.ensures.1 c.in_err-push_log-2.ensures.cause
