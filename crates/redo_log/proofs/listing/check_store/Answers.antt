use Rattle.tool_output.specs.Found.{IsLogStopped}
use Rattle.tool_output.specs.Stops.{stop_from_read}
use Rattle.tool_output.specs.FaultLaws.{read_counted}
use Rattle.tool_output.specs.FoundLaws.{is_small, load_damaged, log_stopped, stopped_by}
use Rattle.redo_log.proofs.listing.check_store.Goals as goal

pub returns-clause-whole : goal.returns-clause-whole
returns-clause-whole g c told store = c.in_ok-check_log.ensures.whole told (is_small (g.M.Machine.disk c.args.machine.now).reads c.args.b store)

pub returns-in_err-check_log-clause-cause : goal.returns-in_err-check_log-clause-cause
returns-in_err-check_log-clause-cause g c told store =
    let files = (g.M.Machine.disk c.args.machine.now).reads in
    stopped_by c.from_residual.result (stop_from_read c.in_err-check_log.field-0.0) (IsLogStopped files) c.from_residual.ensures.1
    (log_stopped files _ _ c.in_err-check_log.field-0.0 (load_damaged files c.args.b store) (c.in_err-check_log.ensures.cause told))

pub returns-in_err-check_log-clause-faults : goal.returns-in_err-check_log-clause-faults
returns-in_err-check_log-clause-faults g c = stopped_by c.from_residual.result (stop_from_read c.in_err-check_log.field-0.0) _ c.from_residual.ensures.1 (read_counted (g.M.Machine.disk c.args.machine.now) (g.M.Machine.disk c.check_log.new.machine) _ c.in_err-check_log.field-0.0 c.in_err-check_log.ensures.fault)
