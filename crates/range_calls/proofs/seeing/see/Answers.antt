use Rattle.execution.specs.Failures.{exec_from_read}
use Rattle.range_calls.specs.JoinLaws.{fetch_fails}
use Rattle.range_calls.specs.ReadLaws.{makes_err, passed}
use Rattle.range_calls.specs.declared.call_err.CallErr.TheVariants.{Exec}
use Rattle.range_calls.proofs.seeing.see.Goals as goal

pub returns-in_err-fetch-clause-reads : goal.returns-in_err-fetch-clause-reads
returns-in_err-fetch-clause-reads g c =
    let cause = c.in_err-fetch.field-0.0 in
    makes_err c.from_residual.result (Exec (exec_from_read cause)) (passed c.from_residual.result (Exec (exec_from_read cause)) c.from_residual.ensures.1) c.in_err-fetch.ensures.reads

pub returns-in_err-fetch-clause-failed : goal.returns-in_err-fetch-clause-failed
returns-in_err-fetch-clause-failed g c =
    let cause = c.in_err-fetch.field-0.0 in
    fetch_fails c.from_residual.result cause (passed c.from_residual.result (Exec (exec_from_read cause)) c.from_residual.ensures.1)
