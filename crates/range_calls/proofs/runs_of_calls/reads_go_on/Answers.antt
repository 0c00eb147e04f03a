use Rattle.range_calls.specs.JoinLaws.{holds_behind, reads_behind}
use Rattle.range_calls.proofs.runs_of_calls.reads_go_on.Goals as goal

pub returns : goal.returns
returns g c = record {
  behind = reads_behind g.S.Store.view g.M.Machine.disk c.calls_go_on.ensures;
  holds = holds_behind g.S.Store.view g.M.Machine.disk c.calls_go_on.ensures;
}
