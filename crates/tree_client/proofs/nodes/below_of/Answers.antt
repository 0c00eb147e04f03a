use Rattle.std.proofs.Common.{ap, ◌∙◌, sym, Ok, Option}
use Rattle.range_calls.specs.JoinLaws.{object_is_there}
use Rattle.range_calls.specs.ReadLaws.{answers_passed, passed}
use Rattle.range_calls.specs.Store.{state_of}
use Rattle.logical_btree.specs.Below.{below_in}
use Rattle.logical_btree.specs.Walk.{node_at}
use Rattle.logical_btree.specs.declared.below.Below.{Below}
use Rattle.tree_client.proofs.nodes.below_of.Goals as goal

pub returns-then-not-there-clause-answer : goal.returns-then-not-there-clause-answer
returns-then-not-there-clause-answer g c = λ p commands holds below done. absurd (object_is_there _ p c.args.object (g.S.Store.view.numbers p (g.M.Machine.disk c.args.machine.now) c.args.store.now commands holds) below (sym c.if-not-there.true ∙ c.in_ok-there.ensures.there))

pub returns-clause-answer : goal.returns-clause-answer
returns-clause-answer g c = λ p commands holds below done.
    ap (λ (o : Option Below). Ok o) (c.below.ensures (state_of p commands) (sym (c.get.ensures.value ∙ c.in_ok-there.ensures.value p commands holds c.if-not-there.false)))

pub returns-in_err-there-clause-answer : goal.returns-in_err-there-clause-answer
returns-in_err-there-clause-answer g c = λ p commands holds below.
    answers_passed c.from_residual.result c.in_err-there.field-0.0 (Ok (below_in c.args.key (node_at c.args.tree.now.lo c.args.tree.now.hi (state_of p commands) c.args.object)))
    (passed c.from_residual.result c.in_err-there.field-0.0 c.from_residual.ensures.1) (λ done. absurd (c.in_err-there.ensures.failed done))
