use Rattle.std.proofs.Common.{Bool, subst}
use Rattle.log_blocks.specs.Forcing.{with_block}
use Rattle.log_blocks.specs.Payloads.{HasNext}
use Rattle.op_codec.specs.AllOps.{all_meaning}
use Rattle.tool_output.specs.Saying.{says_nothing, says_then}
use Rattle.tool_output.specs.Stops.{stop_from_read}
use Rattle.redo_log.proofs.BrokenLemmas.{blocks_broken, no_block_fault}
use Rattle.tool_output.specs.FaultLaws.{read_stops, stops_later}
use Rattle.tool_output.specs.FrontLaws.{on_any}
use Rattle.redo_log.proofs.PartLemmas.{blocks_between, blocks_stop}
use Rattle.redo_log.proofs.Steps.{blocks_done, blocks_go_on, no_block}
use Rattle.redo_log.proofs.saying.say_blocks.Goals as goal

pub loop-alloc-init : goal.loop-alloc-init
loop-alloc-init g c = no_block c.args.choice (all_meaning c.args.b) (g.M.Machine.disk c.args.machine.now) c.args.payloads.now (g.met.M.Machine.lawful c.args.machine.now) c.requires

pub next_payload-requires : goal.next_payload-requires
next_payload-requires g c = record { through = c.loop-alloc.invariant.through }

pub loop-alloc-preserved : goal.loop-alloc-preserved
loop-alloc-preserved g c =
    let next = c.next_payload.new.self in
    blocks_go_on c.args.choice (all_meaning c.args.b) (g.M.Machine.disk c.args.machine.now) (g.M.Machine.disk c.loop-alloc.machine) (g.M.Machine.disk c.next_payload.new.machine) (g.M.Machine.disk c.say_block.new.machine) c.args.payloads.now c.loop-alloc.payloads next c.say_block.new.payloads
    c.loop-alloc.invariant c.next_payload.ensures.kept c.next_payload.ensures.file (c.in_ok-next_payload.ensures.some c.if-not-branch.false).0
    (λ files agree payloads passed taken later stands. subst (λ (more : Bool). HasNext (files next.file) next payloads (with_block passed taken) later more) c.if-not-branch.false (c.in_ok-next_payload.ensures.next files agree payloads passed taken later stands))
    c.say_block.ensures.runs c.say_block.ensures.file c.in_ok-say_block.ensures.less.0 c.in_ok-say_block.ensures.said

pub returns-in_err-next_payload-clause-runs : goal.returns-in_err-next_payload-clause-runs
returns-in_err-next_payload-clause-runs g c = says_then c.loop-alloc.invariant.run (says_nothing c.next_payload.ensures.kept)

pub returns-then-not-branch-clause-runs : goal.returns-then-not-branch-clause-runs
returns-then-not-branch-clause-runs g c = says_then c.loop-alloc.invariant.run (says_nothing c.next_payload.ensures.kept)

pub returns-then-not-branch-clause-said : goal.returns-then-not-branch-clause-said
returns-then-not-branch-clause-said g c told all stands =
    let next = c.next_payload.new.self in
    blocks_done c.args.choice (all_meaning c.args.b) (g.M.Machine.disk c.args.machine.now) (g.M.Machine.disk c.loop-alloc.machine) (g.M.Machine.disk c.next_payload.new.machine) c.args.payloads.now c.loop-alloc.payloads next c.loop-alloc.invariant c.next_payload.ensures.kept
    (λ files agree payloads passed taken later stood. subst (λ (more : Bool). HasNext (files next.file) next payloads (with_block passed taken) later more) c.if-not-branch.true (c.in_ok-next_payload.ensures.next files agree payloads passed taken later stood))
    told all stands

pub returns-in_err-say_block-clause-runs : goal.returns-in_err-say_block-clause-runs
returns-in_err-say_block-clause-runs g c = says_then (says_then c.loop-alloc.invariant.run (says_nothing c.next_payload.ensures.kept)) c.say_block.ensures.runs

pub returns-in_err-next_payload-clause-cause : goal.returns-in_err-next_payload-clause-cause
returns-in_err-next_payload-clause-cause g c = stops_later (g.M.Machine.disk c.args.machine.now) (g.M.Machine.disk c.loop-alloc.machine) (g.M.Machine.disk c.next_payload.new.machine) _ _ c.from_residual.result (stop_from_read c.in_err-next_payload.field-0.0) c.loop-alloc.invariant.run.time (λ file place none. no_block_fault c.args.choice (all_meaning c.args.b) (g.M.Machine.disk c.args.machine.now) (g.M.Machine.disk c.loop-alloc.machine) (g.M.Machine.disk c.next_payload.new.machine) (g.M.Machine.disk c.next_payload.new.machine).said c.args.payloads.now c.loop-alloc.payloads c.loop-alloc.invariant c.next_payload.ensures.kept file place none) c.from_residual.ensures.1 (read_stops (g.M.Machine.disk c.loop-alloc.machine) (g.M.Machine.disk c.next_payload.new.machine) _ c.in_err-next_payload.field-0.0 c.in_err-next_payload.ensures.cause)

pub returns-in_err-say_block-clause-cause : goal.returns-in_err-say_block-clause-cause
returns-in_err-say_block-clause-cause g c = stops_later (g.M.Machine.disk c.args.machine.now) (g.M.Machine.disk c.next_payload.new.machine) (g.M.Machine.disk c.say_block.new.machine) _ _ c.from_residual-in_err-say_block.result c.in_err-say_block.field-0.0 (says_then c.loop-alloc.invariant.run (says_nothing c.next_payload.ensures.kept)).time (λ file place broken. blocks_broken c.args.choice (all_meaning c.args.b) (g.M.Machine.disk c.args.machine.now) (g.M.Machine.disk c.loop-alloc.machine) (g.M.Machine.disk c.next_payload.new.machine) (g.M.Machine.disk c.say_block.new.machine).said c.args.payloads.now c.loop-alloc.payloads c.next_payload.new.self c.loop-alloc.invariant c.next_payload.ensures.kept c.next_payload.ensures.file (c.in_ok-next_payload.ensures.some c.if-not-branch.false).0
    (λ files agree payloads passed taken later stands. subst (λ (more : Bool). HasNext (files c.next_payload.new.self.file) c.next_payload.new.self payloads (with_block passed taken) later more) c.if-not-branch.false (c.in_ok-next_payload.ensures.next files agree payloads passed taken later stands)) broken) c.from_residual-in_err-say_block.ensures.1 c.in_err-say_block.ensures.cause

pub returns-in_err-next_payload-clause-front : goal.returns-in_err-next_payload-clause-front
returns-in_err-next_payload-clause-front g c told all stands =
    let first = g.M.Machine.disk c.args.machine.now in
    let so_far = c.loop-alloc.invariant in
    on_any c.from_residual.result (blocks_between c.args.choice (all_meaning c.args.b) (first.reads c.args.payloads.now.file) c.args.payloads.now c.loop-alloc.payloads all first.said (g.M.Machine.disk c.loop-alloc.machine).said (g.M.Machine.disk c.next_payload.new.machine).said
    (so_far.said told all stands) so_far.through (c.next_payload.ensures.kept.said (so_far.run.time.files_told.0 told)))

pub returns-in_err-say_block-clause-front : goal.returns-in_err-say_block-clause-front
returns-in_err-say_block-clause-front g c told all stands =
    on_any c.from_residual-in_err-say_block.result (blocks_stop c.args.choice (all_meaning c.args.b) (g.M.Machine.disk c.args.machine.now) (g.M.Machine.disk c.loop-alloc.machine) (g.M.Machine.disk c.next_payload.new.machine) (g.M.Machine.disk c.say_block.new.machine).said
    c.args.payloads.now c.loop-alloc.payloads c.next_payload.new.self c.loop-alloc.invariant c.next_payload.ensures.kept c.next_payload.ensures.file (c.in_ok-next_payload.ensures.some c.if-not-branch.false).0
    (λ files agree payloads passed taken later stood. subst (λ (more : Bool). HasNext (files c.next_payload.new.self.file) c.next_payload.new.self payloads (with_block passed taken) later more) c.if-not-branch.false (c.in_ok-next_payload.ensures.next files agree payloads passed taken later stood))
    c.in_err-say_block.ensures.front told all stands)
