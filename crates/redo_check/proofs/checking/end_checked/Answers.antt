use Rattle.std.proofs.Common.{List, ℕ, refl, subst}
use Rattle.redo_check.specs.Checking.{Ends, restart_line}
use Rattle.tool_output.specs.Lines.{stop_line}
use Rattle.redo_check.specs.Checking.IsLastLine.{restarts}
use Rattle.tool_output.specs.Saying.{says_nothing, says_then}
use Rattle.tool_output.specs.FaultLaws.{ends_counted, stopped_counted}
use Rattle.redo_check.proofs.EndLemmas.{ends_stopped, ends_whole, last_of_stop}
use Rattle.tool_output.specs.FrontLaws.{front_at}
use Rattle.redo_check.proofs.checking.end_checked.Goals as goal

pub returns-in-Ok-clause-runs : goal.returns-in-Ok-clause-runs
returns-in-Ok-clause-runs g c = says_then (says_nothing c.judge.ensures.kept) c.end_whole.ensures.runs

pub returns-in-Ok-clause-ends : goal.returns-in-Ok-clause-ends
returns-in-Ok-clause-ends g c told =
    let kept = c.judge.ensures.kept in
    let first = g.M.Machine.disk c.args.machine.now in
    let new = g.M.Machine.disk c.end_whole.new.machine in
    subst (λ (s : List ℕ). Ends first.reads s new.said c.end_whole.result) (kept.said told)
    (ends_whole first.reads (g.M.Machine.disk c.judge.new.machine).said new.said c.in-Ok.restart c.end_whole.result (c.in-Ok.ensures.whole told) c.end_whole.ensures.status (c.end_whole.ensures.all (kept.time.files_told.0 told)))

pub returns-in-Err-clause-runs : goal.returns-in-Err-clause-runs
returns-in-Err-clause-runs g c = says_then (says_nothing c.judge.ensures.kept) c.end_stopped.ensures.runs

pub returns-in-Err-clause-ends : goal.returns-in-Err-clause-ends
returns-in-Err-clause-ends g c told =
    let kept = c.judge.ensures.kept in
    let told_mid = kept.time.files_told.0 told in
    let first = g.M.Machine.disk c.args.machine.now in
    let new = g.M.Machine.disk c.end_stopped.new.machine in
    subst (λ (s : List ℕ). Ends first.reads s new.said c.end_stopped.result) (kept.said told)
    (ends_stopped first.reads (g.M.Machine.disk c.judge.new.machine).said new.said c.in-Err.stop c.end_stopped.result (c.in-Err.ensures.cause told) (c.end_stopped.ensures.no_store told_mid) (c.end_stopped.ensures.damaged told_mid) c.end_stopped.ensures.undone)

pub returns-in-Ok-clause-faults : goal.returns-in-Ok-clause-faults
returns-in-Ok-clause-faults g c = ends_counted (g.M.Machine.disk c.args.machine.now) (g.M.Machine.disk c.judge.new.machine) (g.M.Machine.disk c.end_whole.new.machine) c.end_whole.result c.judge.ensures.kept.time c.end_whole.ensures.faults

pub returns-in-Err-clause-faults : goal.returns-in-Err-clause-faults
returns-in-Err-clause-faults g c = stopped_counted (g.M.Machine.disk c.args.machine.now) (g.M.Machine.disk c.judge.new.machine) (g.M.Machine.disk c.end_stopped.new.machine) c.in-Err.stop c.end_stopped.result c.judge.ensures.kept.time c.end_stopped.ensures.runs.time c.in-Err.ensures.faults c.end_stopped.ensures.faults

pub returns-in-Ok-clause-front : goal.returns-in-Ok-clause-front
returns-in-Ok-clause-front g c told =
    let kept = c.judge.ensures.kept in
    (restart_line c.in-Ok.restart, restarts c.in-Ok.restart (c.in-Ok.ensures.whole told) refl, front_at _ _ _ _ _ refl (kept.said told) (c.end_whole.ensures.front (kept.time.files_told.0 told)))

pub returns-in-Err-clause-front : goal.returns-in-Err-clause-front
returns-in-Err-clause-front g c told =
    let kept = c.judge.ensures.kept in
    (stop_line c.in-Err.stop, last_of_stop (g.M.Machine.disk c.args.machine.now).reads c.in-Err.stop (c.in-Err.ensures.cause told), front_at _ _ _ _ _ refl (kept.said told) (c.end_stopped.ensures.front (kept.time.files_told.0 told)))
