use Rattle.std.proofs.Common.{Bool, subst}
use Rattle.disk_model.specs.Moments.{stays_twice}
use Rattle.log_blocks.specs.Forcing.{with_block}
use Rattle.log_blocks.specs.Payloads.{HasNext}
use Rattle.op_codec.specs.AllOps.{all_meaning}
use Rattle.tool_output.specs.FaultLaws.{read_stops, stops_later}
use Rattle.tool_output.specs.Stops.{stop_from_read}
use Rattle.redo_log.specs.Tallying.{nothing}
use Rattle.redo_log.proofs.BrokenLemmas.{blocks_broken, no_block_fault}
use Rattle.redo_log.proofs.CountLemmas.{blocks_count_on, blocks_counted, blocks_reading, no_block_counted}
use Rattle.redo_log.proofs.counting.count_blocks.Goals as goal

pub loop-alloc-init : goal.loop-alloc-init
loop-alloc-init g c = no_block_counted c.args.choice (all_meaning c.args.b) (g.M.Machine.disk c.args.machine.now) c.args.payloads.now c.args.tally.now.items (g.met.M.Machine.lawful c.args.machine.now) c.requires

pub next_payload-requires : goal.next_payload-requires
next_payload-requires g c = record { through = c.loop-alloc.invariant.through }

pub loop-alloc-preserved : goal.loop-alloc-preserved
loop-alloc-preserved g c =
    let next = c.next_payload.new.self in
    blocks_count_on c.args.choice (all_meaning c.args.b) (g.M.Machine.disk c.args.machine.now) (g.M.Machine.disk c.loop-alloc.machine) (g.M.Machine.disk c.next_payload.new.machine) (g.M.Machine.disk c.count_block.new.machine) c.args.payloads.now c.loop-alloc.payloads next c.count_block.new.payloads
    c.args.tally.now.items c.loop-alloc.tally.items c.count_block.new.tally.items c.loop-alloc.invariant c.next_payload.ensures.kept c.next_payload.ensures.file (c.in_ok-next_payload.ensures.some c.if-not-branch.false).0
    (λ files agree payloads passed taken later stands. subst (λ (more : Bool). HasNext (files next.file) next payloads (with_block passed taken) later more) c.if-not-branch.false (c.in_ok-next_payload.ensures.next files agree payloads passed taken later stands))
    c.count_block.ensures.kept c.count_block.ensures.file c.in_ok-count_block.ensures.less.0 c.in_ok-count_block.ensures.counted

pub returns-in_err-next_payload-clause-kept : goal.returns-in_err-next_payload-clause-kept
returns-in_err-next_payload-clause-kept g c = stays_twice _ _ _ c.loop-alloc.invariant.kept c.next_payload.ensures.kept

pub returns-then-not-branch-clause-kept : goal.returns-then-not-branch-clause-kept
returns-then-not-branch-clause-kept g c = stays_twice _ _ _ c.loop-alloc.invariant.kept c.next_payload.ensures.kept

pub returns-then-not-branch-clause-counted : goal.returns-then-not-branch-clause-counted
returns-then-not-branch-clause-counted g c told all stands =
    let next = c.next_payload.new.self in
    blocks_counted c.args.choice (all_meaning c.args.b) (g.M.Machine.disk c.args.machine.now) (g.M.Machine.disk c.loop-alloc.machine) (g.M.Machine.disk c.next_payload.new.machine) c.args.payloads.now c.loop-alloc.payloads next c.args.tally.now.items c.loop-alloc.tally.items c.loop-alloc.invariant c.next_payload.ensures.kept
    (λ files agree payloads passed taken later stood. subst (λ (more : Bool). HasNext (files next.file) next payloads (with_block passed taken) later more) c.if-not-branch.true (c.in_ok-next_payload.ensures.next files agree payloads passed taken later stood))
    told all stands

pub returns-in_err-count_block-clause-kept : goal.returns-in_err-count_block-clause-kept
returns-in_err-count_block-clause-kept g c = stays_twice _ _ _ (stays_twice _ _ _ c.loop-alloc.invariant.kept c.next_payload.ensures.kept) c.count_block.ensures.kept

pub returns-in_err-next_payload-clause-cause : goal.returns-in_err-next_payload-clause-cause
returns-in_err-next_payload-clause-cause g c =
    let m = all_meaning c.args.b in
    let first = g.M.Machine.disk c.args.machine.now in
    let now = g.M.Machine.disk c.loop-alloc.machine in
    let mid = g.M.Machine.disk c.next_payload.new.machine in
    let it = c.loop-alloc.payloads in
    stops_later first now mid _ _ c.from_residual.result (stop_from_read c.in_err-next_payload.field-0.0) c.loop-alloc.invariant.kept.time
    (λ file place none. no_block_fault nothing m first now mid mid.said c.args.payloads.now it (blocks_reading c.args.choice m first now c.args.payloads.now it c.args.tally.now.items c.loop-alloc.tally.items c.loop-alloc.invariant) c.next_payload.ensures.kept file place none)
    c.from_residual.ensures.1 (read_stops now mid _ c.in_err-next_payload.field-0.0 c.in_err-next_payload.ensures.cause)

pub returns-in_err-count_block-clause-cause : goal.returns-in_err-count_block-clause-cause
returns-in_err-count_block-clause-cause g c =
    let m = all_meaning c.args.b in
    let first = g.M.Machine.disk c.args.machine.now in
    let now = g.M.Machine.disk c.loop-alloc.machine in
    let mid = g.M.Machine.disk c.next_payload.new.machine in
    let it = c.loop-alloc.payloads in
    let next = c.next_payload.new.self in
    stops_later first mid (g.M.Machine.disk c.count_block.new.machine) _ _ c.from_residual-in_err-count_block.result c.in_err-count_block.field-0.0 (stays_twice _ _ _ c.loop-alloc.invariant.kept c.next_payload.ensures.kept).time
    (λ file place broken. blocks_broken nothing m first now mid (g.M.Machine.disk c.count_block.new.machine).said c.args.payloads.now it next (blocks_reading c.args.choice m first now c.args.payloads.now it c.args.tally.now.items c.loop-alloc.tally.items c.loop-alloc.invariant) c.next_payload.ensures.kept c.next_payload.ensures.file (c.in_ok-next_payload.ensures.some c.if-not-branch.false).0
    (λ files agree payloads passed taken later stands. subst (λ (more : Bool). HasNext (files next.file) next payloads (with_block passed taken) later more) c.if-not-branch.false (c.in_ok-next_payload.ensures.next files agree payloads passed taken later stands)) broken)
    c.from_residual-in_err-count_block.ensures.1 c.in_err-count_block.ensures.cause
