use Rattle.std.proofs.Common.{ap, ◌∙◌, Ok, Result, false}
use Rattle.range_calls.specs.Free.{free_between}
use Rattle.range_calls.specs.ReadLaws.{passed}
use Rattle.range_calls.specs.Store.{Command, state_of}
use Rattle.range_calls.specs.declared.turn.Turn.{Turn}
use Rattle.tree_client.specs.Answers.{TreeErr}
use Rattle.tree_client.proofs.TurnLemmas.{split_refused, split_turn}
use Rattle.tree_client.proofs.inserting.split_turn.Goals as goal

pub returns-in_err-split-clause-answer : goal.returns-in_err-split-clause-answer
returns-in_err-split-clause-answer g c = λ p commands holds fits.
    let free = free_between (state_of p commands) c.args.tree.now.lo c.args.tree.now.hi in
    passed c.from_residual.result c.in_err-split.field-0.0 c.from_residual.ensures.1
    ∙ split_refused free c.args.full.child c.args.full.parent c.in_err-split.field-0.0 (c.in_err-split.ensures.answer p commands holds fits)

pub returns-clause-answer : goal.returns-clause-answer
returns-clause-answer g c = λ p commands holds fits.
    let free = free_between (state_of p commands) c.args.tree.now.lo c.args.tree.now.hi in
    ap (λ (o : Command). (let r : Result Turn TreeErr = Ok (record { op = o; last = false }) in r)) c.node_op-op.ensures
    ∙ split_turn free c.args.full.child c.args.full.parent c.in_ok-split.split (c.in_ok-split.ensures.answer p commands holds fits)
