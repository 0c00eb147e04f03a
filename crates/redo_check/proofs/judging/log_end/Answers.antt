use Rattle.tool_output.specs.FaultLaws.{only_counted}
use Rattle.redo_check.proofs.JudgeLemmas.{ends_log}
use Rattle.tool_output.specs.FoundLaws.{stopped_by}
use Rattle.redo_check.proofs.judging.log_end.Goals as goal

pub returns-clause-ends : goal.returns-clause-ends
returns-clause-ends g c files agrees =
    let found = c.in_ok-log.ensures.read files agrees in
    ends_log files c.in_ok-log.log c.active.result c.used.result found.0 found.1 found.2 found.3 c.active.ensures c.used.ensures

pub returns-in_err-log-clause-fault : goal.returns-in_err-log-clause-fault
returns-in_err-log-clause-fault g c = stopped_by c.from_residual.result c.in_err-log.field-0.0 _ c.from_residual.ensures.1 (only_counted _ _ c.in_err-log.field-0.0 c.in_err-log.ensures.cause)
