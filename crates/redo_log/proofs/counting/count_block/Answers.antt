use Rattle.std.proofs.Common.{◌∙◌, arith}
use Rattle.disk_model.specs.Moments.{stays_twice}
use Rattle.log_blocks.specs.Payloads.{remaining}
use Rattle.op_codec.specs.AllOps.{all_meaning}
use Rattle.tool_output.specs.FaultLaws.{stops_later}
use Rattle.redo_log.specs.Tallying.{nothing}
use Rattle.redo_log.proofs.BrokenLemmas.{block_broken}
use Rattle.redo_log.proofs.CountLemmas.{block_counted, block_counts_on, block_reading, block_uncounted}
use Rattle.redo_log.proofs.Steps.{some_left}
use Rattle.redo_log.proofs.counting.count_block.Goals as goal

pub loop-alloc-init : goal.loop-alloc-init
loop-alloc-init g c = block_uncounted c.args.choice (all_meaning c.args.b) (g.M.Machine.disk c.args.machine.now) c.args.payloads.now c.args.tally.now.items (g.met.M.Machine.lawful c.args.machine.now)

pub loop-alloc-preserved : goal.loop-alloc-preserved
loop-alloc-preserved g c =
    block_counts_on c.args.choice (all_meaning c.args.b) (g.M.Machine.disk c.args.machine.now) (g.M.Machine.disk c.loop-alloc.machine) (g.M.Machine.disk c.count_record.new.machine) c.args.payloads.now c.loop-alloc.payloads c.count_record.new.payloads c.args.tally.now.items c.loop-alloc.tally.items c.count_record.new.tally.items
    c.loop-alloc.invariant c.count_record.ensures.kept c.count_record.ensures.file c.in_ok-count_record.ensures.less.1 (some_left (remaining c.loop-alloc.payloads) (λ none. c.if-remaining-eq0.false (c.remaining.ensures ∙ none))) c.in_ok-count_record.ensures.counted

pub returns-then-remaining-eq0-clause-kept : goal.returns-then-remaining-eq0-clause-kept
returns-then-remaining-eq0-clause-kept g c = c.loop-alloc.invariant.kept

pub returns-then-remaining-eq0-clause-counted : goal.returns-then-remaining-eq0-clause-counted
returns-then-remaining-eq0-clause-counted g c told all passed later stands some =
    let first = g.M.Machine.disk c.args.machine.now in
    block_counted c.args.choice (all_meaning c.args.b) (first.reads c.args.payloads.now.file) c.args.payloads.now c.loop-alloc.payloads all passed later first.said (g.M.Machine.disk c.loop-alloc.machine).said c.args.tally.now.items c.loop-alloc.tally.items
    (c.loop-alloc.invariant.counted told all passed later stands some) (omega (arith, c.remaining.ensures, c.if-remaining-eq0.true))

pub returns-in_err-count_record-clause-kept : goal.returns-in_err-count_record-clause-kept
returns-in_err-count_record-clause-kept g c = stays_twice _ _ _ c.loop-alloc.invariant.kept c.count_record.ensures.kept

pub returns-in_err-count_record-clause-cause : goal.returns-in_err-count_record-clause-cause
returns-in_err-count_record-clause-cause g c =
    let m = all_meaning c.args.b in
    let first = g.M.Machine.disk c.args.machine.now in
    let now = g.M.Machine.disk c.loop-alloc.machine in
    let it = c.loop-alloc.payloads in
    stops_later first now (g.M.Machine.disk c.count_record.new.machine) _ _ c.from_residual.result c.in_err-count_record.field-0.0 c.loop-alloc.invariant.kept.time
    (λ file place none. block_broken nothing m first now (g.M.Machine.disk c.count_record.new.machine).said c.args.payloads.now it (block_reading c.args.choice m first now c.args.payloads.now it c.args.tally.now.items c.loop-alloc.tally.items c.loop-alloc.invariant)
    (some_left (remaining it) (λ empty. c.if-remaining-eq0.false (c.remaining.ensures ∙ empty))) none) c.from_residual.ensures.1 c.in_err-count_record.ensures.cause
