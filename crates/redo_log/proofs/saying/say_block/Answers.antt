use Rattle.std.proofs.Common.{◌∙◌, arith}
use Rattle.log_blocks.specs.Payloads.{remaining}
use Rattle.op_codec.specs.AllOps.{all_meaning}
use Rattle.tool_output.specs.Saying.{says_then}
use Rattle.redo_log.proofs.BrokenLemmas.{block_broken}
use Rattle.tool_output.specs.FaultLaws.{stops_first, stops_later}
use Rattle.tool_output.specs.FrontLaws.{on_any}
use Rattle.redo_log.proofs.PartLemmas.{block_stops, head_in_part}
use Rattle.redo_log.proofs.ReadLemmas.{block_said}
use Rattle.redo_log.proofs.Steps.{block_begun, block_goes_on, some_left}
use Rattle.redo_log.proofs.saying.say_block.Goals as goal

pub loop-alloc-init : goal.loop-alloc-init
loop-alloc-init g c = block_begun c.args.choice (all_meaning c.args.b) (g.M.Machine.disk c.args.machine.now) (g.M.Machine.disk c.say_head.new.machine) c.args.payloads.now c.say_head.ensures.runs c.in_ok-say_head.ensures.said

pub loop-alloc-preserved : goal.loop-alloc-preserved
loop-alloc-preserved g c =
    block_goes_on c.args.choice (all_meaning c.args.b) (g.M.Machine.disk c.args.machine.now) (g.M.Machine.disk c.loop-alloc.machine) (g.M.Machine.disk c.say_record.new.machine) c.args.payloads.now c.loop-alloc.payloads c.say_record.new.payloads
    c.loop-alloc.invariant c.say_record.ensures.runs c.say_record.ensures.file c.in_ok-say_record.ensures.less.1 (some_left (remaining c.loop-alloc.payloads) (λ none. c.if-remaining-eq0.false (c.remaining.ensures ∙ none))) c.in_ok-say_record.ensures.said

pub returns-then-remaining-eq0-clause-runs : goal.returns-then-remaining-eq0-clause-runs
returns-then-remaining-eq0-clause-runs g c = c.loop-alloc.invariant.run

pub returns-then-remaining-eq0-clause-said : goal.returns-then-remaining-eq0-clause-said
returns-then-remaining-eq0-clause-said g c told all passed later stands some =
    let first = g.M.Machine.disk c.args.machine.now in
    block_said c.args.choice (all_meaning c.args.b) (first.reads c.args.payloads.now.file) c.args.payloads.now c.loop-alloc.payloads all passed later first.said (g.M.Machine.disk c.loop-alloc.machine).said
    (c.loop-alloc.invariant.said told all passed later stands some) (omega (arith, c.remaining.ensures, c.if-remaining-eq0.true))

pub returns-in_err-say_record-clause-runs : goal.returns-in_err-say_record-clause-runs
returns-in_err-say_record-clause-runs g c = says_then c.loop-alloc.invariant.run c.say_record.ensures.runs

pub returns-in_err-say_head-clause-cause : goal.returns-in_err-say_head-clause-cause
returns-in_err-say_head-clause-cause g c = stops_first (g.M.Machine.disk c.args.machine.now) (g.M.Machine.disk c.say_head.new.machine) _ _ c.from_residual.result c.in_err-say_head.field-0.0 (λ file place none. absurd none) c.from_residual.ensures.1 c.in_err-say_head.ensures.cause

pub returns-in_err-say_record-clause-cause : goal.returns-in_err-say_record-clause-cause
returns-in_err-say_record-clause-cause g c = stops_later (g.M.Machine.disk c.args.machine.now) (g.M.Machine.disk c.loop-alloc.machine) (g.M.Machine.disk c.say_record.new.machine) _ _ c.from_residual-in_err-say_record.result c.in_err-say_record.field-0.0 c.loop-alloc.invariant.run.time (λ file place none. block_broken c.args.choice (all_meaning c.args.b) (g.M.Machine.disk c.args.machine.now) (g.M.Machine.disk c.loop-alloc.machine) (g.M.Machine.disk c.say_record.new.machine).said c.args.payloads.now c.loop-alloc.payloads c.loop-alloc.invariant (some_left (remaining c.loop-alloc.payloads) (λ nothing. c.if-remaining-eq0.false (c.remaining.ensures ∙ nothing))) none) c.from_residual-in_err-say_record.ensures.1 c.in_err-say_record.ensures.cause

pub returns-in_err-say_head-clause-front : goal.returns-in_err-say_head-clause-front
returns-in_err-say_head-clause-front g c told all passed later stands some =
    let first = g.M.Machine.disk c.args.machine.now in
    on_any c.from_residual.result (head_in_part c.args.choice (all_meaning c.args.b) (first.reads c.args.payloads.now.file) c.args.payloads.now all passed later first.said (g.M.Machine.disk c.say_head.new.machine).said stands some (c.say_head.ensures.front told all passed later stands some))

pub returns-in_err-say_record-clause-front : goal.returns-in_err-say_record-clause-front
returns-in_err-say_record-clause-front g c told all passed later stands some =
    on_any c.from_residual-in_err-say_record.result (block_stops c.args.choice (all_meaning c.args.b) (g.M.Machine.disk c.args.machine.now) (g.M.Machine.disk c.loop-alloc.machine) (g.M.Machine.disk c.say_record.new.machine).said c.args.payloads.now c.loop-alloc.payloads c.loop-alloc.invariant
    (some_left (remaining c.loop-alloc.payloads) (λ nothing. c.if-remaining-eq0.false (c.remaining.ensures ∙ nothing))) c.in_err-say_record.ensures.front told all passed later stands some)
