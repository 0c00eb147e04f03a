use Rattle.std.proofs.Common.{ap, ◌∙◌, sym}
use Rattle.range_calls.specs.JoinLaws.{object_is_there}
use Rattle.range_calls.specs.ReadLaws.{answers_passed, passed}
use Rattle.range_calls.specs.Store.{state_of}
use Rattle.logical_btree.specs.Walk.{node_at}
use Rattle.tree_client.specs.Finding.{node_answer}
use Rattle.tree_client.proofs.nodes.node_of.Goals as goal

pub returns-then-not-there-clause-answer : goal.returns-then-not-there-clause-answer
returns-then-not-there-clause-answer g c = λ p commands holds below done. absurd (object_is_there _ p c.args.object (g.S.Store.view.numbers p (g.M.Machine.disk c.args.machine.now) c.args.store.now commands holds) below (sym c.if-not-there.true ∙ c.in_ok-there.ensures.there))

pub returns-in-Some-clause-answer : goal.returns-in-Some-clause-answer
returns-in-Some-clause-answer g c = λ p commands holds below done.
    ap (node_answer c.args.object) (c.in-Some.ensures (state_of p commands) (sym (c.get.ensures.value ∙ c.in_ok-there.ensures.value p commands holds c.if-not-there.false)))

pub returns-in-None-clause-answer : goal.returns-in-None-clause-answer
returns-in-None-clause-answer g c = λ p commands holds below done.
    ap (node_answer c.args.object) (c.in-None.ensures (state_of p commands) (sym (c.get.ensures.value ∙ c.in_ok-there.ensures.value p commands holds c.if-not-there.false)))

pub returns-in_err-there-clause-answer : goal.returns-in_err-there-clause-answer
returns-in_err-there-clause-answer g c = λ p commands holds below.
    answers_passed c.from_residual.result c.in_err-there.field-0.0 (node_answer c.args.object (node_at c.args.tree.now.lo c.args.tree.now.hi (state_of p commands) c.args.object))
    (passed c.from_residual.result c.in_err-there.field-0.0 c.from_residual.ensures.1) (λ done. absurd (c.in_err-there.ensures.failed done))
