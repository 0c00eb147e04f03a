use Rattle.std.proofs.Common.{◌++◌, ◌∙◌, ℕ, ap, drop}
use Rattle.std.specs.Prelude.{codes}
use Rattle.disk_model.specs.Moments.{told_agrees}
use Rattle.redo_log.specs.Lines.{frame_line, line, used}
use Rattle.tool_output.specs.Saying.{says_front, says_nothing, says_then}
use Rattle.tool_output.specs.Stops.{stop_from_read}
use Rattle.tool_output.specs.FaultLaws.{read_stops, stops_first, stops_later}
use Rattle.tool_output.specs.FrontLaws.{front_at, nothing_said}
use Rattle.redo_log.proofs.listing.say_end.Goals as goal

pub returns-in_err-left-clause-runs : goal.returns-in_err-left-clause-runs
returns-in_err-left-clause-runs g c = says_nothing c.left_behind.ensures.kept

pub returns-in_err-line-clause-runs : goal.returns-in_err-line-clause-runs
returns-in_err-line-clause-runs g c = says_nothing c.left_behind.ensures.kept

pub returns-in_err-say_text-clause-runs : goal.returns-in_err-say_text-clause-runs
returns-in_err-say_text-clause-runs g c = says_then (says_nothing c.left_behind.ensures.kept) (says_front _ c.say_text.ensures.runs)

pub returns-clause-runs : goal.returns-clause-runs
returns-clause-runs g c = says_then (says_nothing c.left_behind.ensures.kept) (says_front _ c.say_text.ensures.runs)

pub returns-clause-said : goal.returns-clause-said
returns-clause-said g c told =
    let first = g.M.Machine.disk c.args.machine.now in
    let kept = c.left_behind.ensures.kept in
    let text = c.as_slice.ensures.value ∙ c.in_ok-line.ensures ∙ ap (λ (k : ℕ). frame_line c.args.choice c.args.file c.args.end k (codes "end")) (c.in_ok-left.ensures.left first.reads (told_agrees kept told)) in
    c.in_ok-say_text.ensures.all (kept.time.files_told.0 told) ∙ λ i. kept.said told i ++ text i

pub returns-in_err-left-clause-cause : goal.returns-in_err-left-clause-cause
returns-in_err-left-clause-cause g c = stops_first (g.M.Machine.disk c.args.machine.now) (g.M.Machine.disk c.left_behind.new.machine) _ _ c.from_residual.result (stop_from_read c.in_err-left.field-0.0) (λ file place none. absurd none) c.from_residual.ensures.1 (read_stops (g.M.Machine.disk c.args.machine.now) (g.M.Machine.disk c.left_behind.new.machine) _ c.in_err-left.field-0.0 c.in_err-left.ensures.cause)

pub returns-in_err-say_text-clause-cause : goal.returns-in_err-say_text-clause-cause
returns-in_err-say_text-clause-cause g c = stops_later (g.M.Machine.disk c.args.machine.now) (g.M.Machine.disk c.left_behind.new.machine) (g.M.Machine.disk c.say_text.new.machine) _ _ c.from_residual-in_err-say_text.result c.in_err-say_text.field-0.0 c.left_behind.ensures.kept.time (λ file place none. absurd none) c.from_residual-in_err-say_text.ensures.1 c.in_err-say_text.ensures.cause

pub returns-in_err-left-clause-front : goal.returns-in_err-left-clause-front
returns-in_err-left-clause-front g c told =
    let first = g.M.Machine.disk c.args.machine.now in
    let kept = c.left_behind.ensures.kept in
    nothing_said (frame_line c.args.choice c.args.file c.args.end (used (drop c.args.end (first.reads c.args.file))) (codes "end")) _ _ (kept.said told)

pub returns-in_err-line-clause-front : goal.returns-in_err-line-clause-front
returns-in_err-line-clause-front g c told =
    let first = g.M.Machine.disk c.args.machine.now in
    let kept = c.left_behind.ensures.kept in
    nothing_said (frame_line c.args.choice c.args.file c.args.end (used (drop c.args.end (first.reads c.args.file))) (codes "end")) _ _ (kept.said told)

pub returns-in_err-say_text-clause-front : goal.returns-in_err-say_text-clause-front
returns-in_err-say_text-clause-front g c told =
    let first = g.M.Machine.disk c.args.machine.now in
    let kept = c.left_behind.ensures.kept in
    let text = c.as_slice.ensures.value ∙ c.in_ok-line.ensures ∙ ap (λ (k : ℕ). frame_line c.args.choice c.args.file c.args.end k (codes "end")) (c.in_ok-left.ensures.left first.reads (told_agrees kept told)) in
    front_at _ _ _ _ _ text (kept.said told) (c.say_text.ensures.runs.said (kept.time.files_told.0 told))

pub returns-clause-front : goal.returns-clause-front
returns-clause-front g c told =
    let first = g.M.Machine.disk c.args.machine.now in
    let kept = c.left_behind.ensures.kept in
    let text = c.as_slice.ensures.value ∙ c.in_ok-line.ensures ∙ ap (λ (k : ℕ). frame_line c.args.choice c.args.file c.args.end k (codes "end")) (c.in_ok-left.ensures.left first.reads (told_agrees kept told)) in
    front_at _ _ _ _ _ text (kept.said told) (c.say_text.ensures.runs.said (kept.time.files_told.0 told))
