use Rattle.std.proofs.Common.{◌++◌, ◌∙◌, List, ℕ, ap, refl}
use Rattle.std.specs.Prelude.{codes}
use Rattle.disk_model.specs.Moments.{stays_here}
use Rattle.formats.specs.Log.{end_of}
use Rattle.log_blocks.specs.Payloads.{remaining}
use Rattle.redo_log.specs.Lines.{frame_line, line}
use Rattle.tool_output.specs.Saying.{says_front, says_nothing}
use Rattle.tool_output.specs.FaultLaws.{stops_first}
use Rattle.tool_output.specs.FrontLaws.{front_at, nothing_said}
use Rattle.redo_log.proofs.Steps.{head_text}
use Rattle.redo_log.proofs.saying.say_head.Goals as goal

pub returns-in_err-line-clause-runs : goal.returns-in_err-line-clause-runs
returns-in_err-line-clause-runs g c = says_nothing (stays_here (g.M.Machine.disk c.args.machine.now) (g.met.M.Machine.lawful c.args.machine.now))

pub returns-in_err-say_text-clause-runs : goal.returns-in_err-say_text-clause-runs
returns-in_err-say_text-clause-runs g c = says_front _ c.say_text.ensures.runs

pub returns-clause-runs : goal.returns-clause-runs
returns-clause-runs g c = says_front _ c.say_text.ensures.runs

pub returns-clause-said : goal.returns-clause-said
returns-clause-said g c told all passed later stands some =
    let first = g.M.Machine.disk c.args.machine.now in
    let text = head_text c.args.choice (first.reads c.args.payloads.now.file) c.args.payloads.now all passed later c.file.result c.place.result c.saturating_sub.result c.remaining.result _
    c.file.ensures c.place.ensures c.saturating_sub.ensures c.remaining.ensures (c.as_slice.ensures.value ∙ c.in_ok-line.ensures) stands some in
    c.in_ok-say_text.ensures.all told ∙ ap (λ (l : List ℕ). first.said ++ l) text

pub returns-in_err-say_text-clause-cause : goal.returns-in_err-say_text-clause-cause
returns-in_err-say_text-clause-cause g c = stops_first (g.M.Machine.disk c.args.machine.now) (g.M.Machine.disk c.say_text.new.machine) _ _ c.from_residual-in_err-say_text.result c.in_err-say_text.field-0.0 (λ file place none. absurd none) c.from_residual-in_err-say_text.ensures.1 c.in_err-say_text.ensures.cause

pub returns-in_err-line-clause-front : goal.returns-in_err-line-clause-front
returns-in_err-line-clause-front g c told all passed later stands some = nothing_said (frame_line c.args.choice c.args.payloads.now.file (end_of passed) (remaining c.args.payloads.now) (codes "block")) _ _ refl

pub returns-in_err-say_text-clause-front : goal.returns-in_err-say_text-clause-front
returns-in_err-say_text-clause-front g c told all passed later stands some =
    let first = g.M.Machine.disk c.args.machine.now in
    let text = head_text c.args.choice (first.reads c.args.payloads.now.file) c.args.payloads.now all passed later c.file.result c.place.result c.saturating_sub.result c.remaining.result _
    c.file.ensures c.place.ensures c.saturating_sub.ensures c.remaining.ensures (c.as_slice.ensures.value ∙ c.in_ok-line.ensures) stands some in
    front_at _ _ _ _ _ text refl (c.say_text.ensures.runs.said told)

pub returns-clause-front : goal.returns-clause-front
returns-clause-front g c told all passed later stands some =
    let first = g.M.Machine.disk c.args.machine.now in
    let text = head_text c.args.choice (first.reads c.args.payloads.now.file) c.args.payloads.now all passed later c.file.result c.place.result c.saturating_sub.result c.remaining.result _
    c.file.ensures c.place.ensures c.saturating_sub.ensures c.remaining.ensures (c.as_slice.ensures.value ∙ c.in_ok-line.ensures) stands some in
    front_at _ _ _ _ _ text refl (c.say_text.ensures.runs.said told)
