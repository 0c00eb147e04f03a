use Rattle.range_calls.specs.JoinLaws.{reads_short}
use Rattle.range_calls.proofs.runs_of_calls.reads_run_short.Goals as goal

pub returns : goal.returns
returns g c = reads_short g.S.Store.view g.M.Machine.disk c.calls_go_on.ensures
