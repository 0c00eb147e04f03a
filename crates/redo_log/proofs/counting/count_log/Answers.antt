use Rattle.disk_model.specs.Moments.{stays_twice, told_agrees}
use Rattle.op_codec.specs.AllOps.{all_meaning}
use Rattle.tool_output.specs.FaultLaws.{read_stops, stops_first, stops_later}
use Rattle.tool_output.specs.Stops.{stop_from_read}
use Rattle.redo_log.proofs.CountLemmas.{log_counted, log_unreadable}
use Rattle.redo_log.proofs.counting.count_log.Goals as goal

pub count_blocks-requires : goal.count_blocks-requires
count_blocks-requires g c = c.in_ok-payloads.ensures.through

pub returns-in_err-payloads-clause-kept : goal.returns-in_err-payloads-clause-kept
returns-in_err-payloads-clause-kept g c = c.reader.ensures.kept

pub returns-in_err-count_blocks-clause-kept : goal.returns-in_err-count_blocks-clause-kept
returns-in_err-count_blocks-clause-kept g c = stays_twice _ _ _ c.reader.ensures.kept c.count_blocks.ensures.kept

pub returns-clause-kept : goal.returns-clause-kept
returns-clause-kept g c = stays_twice _ _ _ c.reader.ensures.kept c.count_blocks.ensures.kept

pub returns-clause-counted : goal.returns-clause-counted
returns-clause-counted g c told payloads holds =
    let first = g.M.Machine.disk c.args.machine.now in
    log_counted c.args.choice (all_meaning c.args.b) first (g.M.Machine.disk c.reader.new.machine) (g.M.Machine.disk c.count_blocks.new.machine).said c.args.log.now.active payloads c.in_ok-payloads.payloads c.args.tally.now.items c.count_blocks.new.tally.items
    told c.reader.ensures.kept c.in_ok-payloads.ensures.file (c.in_ok-payloads.ensures.starts first.reads (told_agrees c.reader.ensures.kept told) payloads holds.log) c.in_ok-count_blocks.ensures.counted

pub returns-in_err-payloads-clause-cause : goal.returns-in_err-payloads-clause-cause
returns-in_err-payloads-clause-cause g c =
    let first = g.M.Machine.disk c.args.machine.now in
    let mid = g.M.Machine.disk c.reader.new.machine in
    stops_first first mid _ _ c.from_residual.result (stop_from_read c.in_err-payloads.field-0.0) (λ file place none. absurd none) c.from_residual.ensures.1 (read_stops first mid _ c.in_err-payloads.field-0.0 c.in_err-payloads.ensures.cause)

pub returns-in_err-count_blocks-clause-cause : goal.returns-in_err-count_blocks-clause-cause
returns-in_err-count_blocks-clause-cause g c =
    let first = g.M.Machine.disk c.args.machine.now in
    let mid = g.M.Machine.disk c.reader.new.machine in
    let new = g.M.Machine.disk c.count_blocks.new.machine in
    stops_later first mid new _ _ c.from_residual-in_err-count_blocks.result c.in_err-count_blocks.field-0.0 c.reader.ensures.kept.time
    (λ file place breaks told payloads holds. log_unreadable (all_meaning c.args.b) first mid new.said c.args.log.now.active payloads c.in_ok-payloads.payloads told c.reader.ensures.kept c.in_ok-payloads.ensures.file
    (c.in_ok-payloads.ensures.starts first.reads (told_agrees c.reader.ensures.kept told) payloads holds.log) breaks)
    c.from_residual-in_err-count_blocks.ensures.1 c.in_err-count_blocks.ensures.cause
