use Rattle.std.proofs.Common.{◌∙◌}
use Rattle.op_codec.specs.AllOps.{all_meaning}
use Rattle.redo_log.specs.Lines.{frame_line, header_words}
use Rattle.tool_output.specs.Saying.{says_nothing, says_then, still_agrees}
use Rattle.tool_output.specs.Stops.{stop_from_read}
use Rattle.redo_log.proofs.BrokenLemmas.{log_broken}
use Rattle.tool_output.specs.FaultLaws.{read_stops, stops_first, stops_later}
use Rattle.tool_output.specs.FrontLaws.{all_said, on_any}
use Rattle.redo_log.proofs.ListLemmas.{blocks_of_log, log_end_part, log_goes_on, log_head}
use Rattle.tool_output.specs.FoundLaws.{end_used}
use Rattle.redo_log.proofs.listing.say_log.Goals as goal

pub returns-in_err-payloads-clause-runs : goal.returns-in_err-payloads-clause-runs
returns-in_err-payloads-clause-runs g c = says_then c.say_header.ensures.runs (says_nothing c.reader.ensures.kept)

pub say_blocks-requires : goal.say_blocks-requires
say_blocks-requires g c = c.in_ok-payloads.ensures.through

pub returns-in_err-say_blocks-clause-runs : goal.returns-in_err-say_blocks-clause-runs
returns-in_err-say_blocks-clause-runs g c = says_then (says_then c.say_header.ensures.runs (says_nothing c.reader.ensures.kept)) c.say_blocks.ensures.runs

pub returns-in_err-say_end-clause-runs : goal.returns-in_err-say_end-clause-runs
returns-in_err-say_end-clause-runs g c = says_then (says_then (says_then c.say_header.ensures.runs (says_nothing c.reader.ensures.kept)) c.say_blocks.ensures.runs) c.say_end.ensures.runs

pub returns-clause-runs : goal.returns-clause-runs
returns-clause-runs g c = says_then (says_then (says_then c.say_header.ensures.runs (says_nothing c.reader.ensures.kept)) c.say_blocks.ensures.runs) c.say_end.ensures.runs

pub returns-clause-said : goal.returns-clause-said
returns-clause-said g c told payloads holds end none =
    log_goes_on c.args.choice (all_meaning c.args.b) (g.M.Machine.disk c.args.machine.now) (g.M.Machine.disk c.say_header.new.machine) (g.M.Machine.disk c.reader.new.machine) (g.M.Machine.disk c.say_blocks.new.machine) (g.M.Machine.disk c.say_end.new.machine)
    c.args.log.now.active c.active.result c.args.log.now.header payloads c.in_ok-payloads.payloads c.used.result told
    c.say_header.ensures.runs c.reader.ensures.kept c.say_blocks.ensures.runs (c.in_ok-say_header.ensures.said told) c.in_ok-payloads.ensures.file c.active.ensures (c.used.ensures ∙ end_used c.args.log.now _ none end)
    (c.in_ok-payloads.ensures.starts (g.M.Machine.disk c.args.machine.now).reads (still_agrees (says_then c.say_header.ensures.runs (says_nothing c.reader.ensures.kept)) told) payloads holds.log)
    c.in_ok-say_blocks.ensures.said c.in_ok-say_end.ensures.said

pub returns-in_err-say_header-clause-cause : goal.returns-in_err-say_header-clause-cause
returns-in_err-say_header-clause-cause g c = stops_first (g.M.Machine.disk c.args.machine.now) (g.M.Machine.disk c.say_header.new.machine) _ _ c.from_residual.result c.in_err-say_header.field-0.0 (λ file place none. absurd none) c.from_residual.ensures.1 c.in_err-say_header.ensures.cause

pub returns-in_err-payloads-clause-cause : goal.returns-in_err-payloads-clause-cause
returns-in_err-payloads-clause-cause g c = stops_later (g.M.Machine.disk c.args.machine.now) (g.M.Machine.disk c.say_header.new.machine) (g.M.Machine.disk c.reader.new.machine) _ _ c.from_residual-in_err-payloads.result (stop_from_read c.in_err-payloads.field-0.0) c.say_header.ensures.runs.time (λ file place none. absurd none) c.from_residual-in_err-payloads.ensures.1 (read_stops (g.M.Machine.disk c.say_header.new.machine) (g.M.Machine.disk c.reader.new.machine) _ c.in_err-payloads.field-0.0 c.in_err-payloads.ensures.cause)

pub returns-in_err-say_blocks-clause-cause : goal.returns-in_err-say_blocks-clause-cause
returns-in_err-say_blocks-clause-cause g c = stops_later (g.M.Machine.disk c.args.machine.now) (g.M.Machine.disk c.reader.new.machine) (g.M.Machine.disk c.say_blocks.new.machine) _ _ c.from_residual-in_err-say_blocks.result c.in_err-say_blocks.field-0.0 (says_then c.say_header.ensures.runs (says_nothing c.reader.ensures.kept)).time (λ file place broken. log_broken c.args.choice (all_meaning c.args.b) (g.M.Machine.disk c.args.machine.now) (g.M.Machine.disk c.say_header.new.machine) (g.M.Machine.disk c.reader.new.machine) (g.M.Machine.disk c.say_blocks.new.machine).said c.args.log.now.active c.args.log.now.header c.in_ok-payloads.payloads c.say_header.ensures.runs c.reader.ensures.kept c.in_ok-payloads.ensures.file c.in_ok-say_header.ensures.said
    (λ payloads told holds. c.in_ok-payloads.ensures.starts (g.M.Machine.disk c.args.machine.now).reads (still_agrees (says_then c.say_header.ensures.runs (says_nothing c.reader.ensures.kept)) told) payloads holds.log) broken) c.from_residual-in_err-say_blocks.ensures.1 c.in_err-say_blocks.ensures.cause

pub returns-in_err-say_end-clause-cause : goal.returns-in_err-say_end-clause-cause
returns-in_err-say_end-clause-cause g c = stops_later (g.M.Machine.disk c.args.machine.now) (g.M.Machine.disk c.say_blocks.new.machine) (g.M.Machine.disk c.say_end.new.machine) _ _ c.from_residual-in_err-say_end.result c.in_err-say_end.field-0.0 (says_then (says_then c.say_header.ensures.runs (says_nothing c.reader.ensures.kept)) c.say_blocks.ensures.runs).time (λ file place none. absurd none) c.from_residual-in_err-say_end.ensures.1 c.in_err-say_end.ensures.cause

pub returns-in_err-say_header-clause-front : goal.returns-in_err-say_header-clause-front
returns-in_err-say_header-clause-front g c told payloads holds end none =
    on_any c.from_residual.result (log_head c.args.choice (all_meaning c.args.b) (g.M.Machine.disk c.args.machine.now).reads c.args.log.now.active c.args.log.now.header payloads _ _ (c.say_header.ensures.front told))

pub returns-in_err-payloads-clause-front : goal.returns-in_err-payloads-clause-front
returns-in_err-payloads-clause-front g c told payloads holds end none =
    let first = g.M.Machine.disk c.args.machine.now in
    on_any c.from_residual-in_err-payloads.result (log_head c.args.choice (all_meaning c.args.b) first.reads c.args.log.now.active c.args.log.now.header payloads _ _
    (all_said (frame_line c.args.choice c.args.log.now.active 0 33 (header_words c.args.log.now.header)) _ _ (c.reader.ensures.kept.said (c.say_header.ensures.runs.time.files_told.0 told) ∙ c.in_ok-say_header.ensures.said told)))

pub returns-in_err-say_blocks-clause-front : goal.returns-in_err-say_blocks-clause-front
returns-in_err-say_blocks-clause-front g c told payloads holds end none =
    on_any c.from_residual-in_err-say_blocks.result (blocks_of_log c.args.choice (all_meaning c.args.b) (g.M.Machine.disk c.args.machine.now) (g.M.Machine.disk c.say_header.new.machine) (g.M.Machine.disk c.reader.new.machine) (g.M.Machine.disk c.say_blocks.new.machine).said
    c.args.log.now.active c.args.log.now.header payloads c.in_ok-payloads.payloads told c.say_header.ensures.runs c.reader.ensures.kept (c.in_ok-say_header.ensures.said told) c.in_ok-payloads.ensures.file
    (c.in_ok-payloads.ensures.starts (g.M.Machine.disk c.args.machine.now).reads (still_agrees (says_then c.say_header.ensures.runs (says_nothing c.reader.ensures.kept)) told) payloads holds.log) c.in_err-say_blocks.ensures.front)

pub returns-in_err-say_end-clause-front : goal.returns-in_err-say_end-clause-front
returns-in_err-say_end-clause-front g c told payloads holds end none =
    on_any c.from_residual-in_err-say_end.result (log_end_part c.args.choice (all_meaning c.args.b) (g.M.Machine.disk c.args.machine.now) (g.M.Machine.disk c.say_header.new.machine) (g.M.Machine.disk c.reader.new.machine) (g.M.Machine.disk c.say_blocks.new.machine) (g.M.Machine.disk c.say_end.new.machine).said
    c.args.log.now.active c.active.result c.args.log.now.header payloads c.in_ok-payloads.payloads c.used.result told c.say_header.ensures.runs c.reader.ensures.kept c.say_blocks.ensures.runs (c.in_ok-say_header.ensures.said told)
    c.in_ok-payloads.ensures.file c.active.ensures (c.used.ensures ∙ end_used c.args.log.now _ none end)
    (c.in_ok-payloads.ensures.starts (g.M.Machine.disk c.args.machine.now).reads (still_agrees (says_then c.say_header.ensures.runs (says_nothing c.reader.ensures.kept)) told) payloads holds.log) c.in_ok-say_blocks.ensures.said c.say_end.ensures.front)
