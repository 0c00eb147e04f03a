use Rattle.std.proofs.Common.{◌++◌, ◌∙◌, inl, inr}
use Rattle.tool_output.specs.Saying.{says_front, says_nothing, says_then}
use Rattle.tool_output.specs.Faults.{StopsBy}
use Rattle.tool_output.specs.Stops.{stop_from_read}
use Rattle.tool_output.specs.FoundLaws.{stopped_by}
use Rattle.tool_output.specs.FaultLaws.{read_stops, stops_later}
use Rattle.tool_output.specs.FrontLaws.{front_at}
use Rattle.redo_check.proofs.saying.say_files.Goals as goal

pub returns-in_err-text-clause-runs : goal.returns-in_err-text-clause-runs
returns-in_err-text-clause-runs g c = says_nothing c.all_text.ensures.kept

pub returns-in_err-say_text-clause-runs : goal.returns-in_err-say_text-clause-runs
returns-in_err-say_text-clause-runs g c = says_then (says_nothing c.all_text.ensures.kept) (says_front _ c.say_text.ensures.runs)

pub returns-clause-runs : goal.returns-clause-runs
returns-clause-runs g c = says_then (says_nothing c.all_text.ensures.kept) (says_front _ c.say_text.ensures.runs)

pub returns-clause-said : goal.returns-clause-said
returns-clause-said g c told =
    let kept = c.all_text.ensures.kept in
    (c.in_ok-text.text.items, c.in_ok-text.ensures.text told, c.in_ok-say_text.ensures.all (kept.time.files_told.0 told) ∙ λ i. kept.said told i ++ c.as_slice.ensures.value i)

pub returns-in_err-text-clause-cause : goal.returns-in_err-text-clause-cause
returns-in_err-text-clause-cause g c = stopped_by c.from_residual.result (stop_from_read c.in_err-text.field-0.0) (StopsBy (g.M.Machine.disk c.args.machine.now) (g.M.Machine.disk c.all_text.new.machine) (λ file place. ⊥)) c.from_residual.ensures.1 (read_stops (g.M.Machine.disk c.args.machine.now) (g.M.Machine.disk c.all_text.new.machine) _ c.in_err-text.field-0.0 c.in_err-text.ensures.cause)

pub returns-in_err-say_text-clause-cause : goal.returns-in_err-say_text-clause-cause
returns-in_err-say_text-clause-cause g c = stops_later (g.M.Machine.disk c.args.machine.now) (g.M.Machine.disk c.all_text.new.machine) (g.M.Machine.disk c.say_text.new.machine) _ _ c.from_residual-in_err-say_text.result c.in_err-say_text.field-0.0 c.all_text.ensures.kept.time (λ file place none. absurd none) c.from_residual-in_err-say_text.ensures.1 c.in_err-say_text.ensures.cause

pub returns-in_err-text-clause-front : goal.returns-in_err-text-clause-front
returns-in_err-text-clause-front g c told = inl (c.all_text.ensures.kept.said told)

pub returns-in_err-say_text-clause-front : goal.returns-in_err-say_text-clause-front
returns-in_err-say_text-clause-front g c told =
    let kept = c.all_text.ensures.kept in
    inr (c.in_ok-text.text.items, c.in_ok-text.ensures.text told, front_at _ _ _ _ _ c.as_slice.ensures.value (kept.said told) (c.say_text.ensures.runs.said (kept.time.files_told.0 told)))

pub returns-clause-front : goal.returns-clause-front
returns-clause-front g c told =
    let kept = c.all_text.ensures.kept in
    inr (c.in_ok-text.text.items, c.in_ok-text.ensures.text told, front_at _ _ _ _ _ c.as_slice.ensures.value (kept.said told) (c.say_text.ensures.runs.said (kept.time.files_told.0 told)))
