use Rattle.std.proofs.Common.{◌<◌, sym, ap, ◌∙◌, ℕ, Option, Result, [], arith}
use Rattle.formats.specs.declared.params.Params.{Params}
use Rattle.page_ops.specs.declared.page_op.PageOp.{PageOp}
use Rattle.page_map.specs.Plan.{delete_command}
use Rattle.range_calls.specs.ReadLaws.{answers_passed, passed}
use Rattle.range_calls.specs.Store.{state_of}
use Rattle.map_client.specs.Changing.{delete_of, found}
use Rattle.map_client.proofs.CommandLemmas.{delete_bad, delete_is}
use Rattle.map_client.proofs.deleting.deletion.Goals as goal

pub returns-in_err-leaf-clause-answer : goal.returns-in_err-leaf-clause-answer
returns-in_err-leaf-clause-answer g c = λ p commands holds.
    let lo = c.args.map.now.lo in
    let hi = c.args.map.now.hi in
    let s = state_of p commands in
    answers_passed c.from_residual.result c.in_err-leaf.field-0.0 (found (delete_of (delete_command lo hi s c.args.key.now)))
    (passed c.from_residual.result c.in_err-leaf.field-0.0 c.from_residual.ensures.1)
    (λ done. delete_bad lo hi s c.args.key.now c.in_err-leaf.field-0.0 (c.in_err-leaf.ensures.bad p commands holds done))

pub returns-clause-reads : goal.returns-clause-reads
returns-clause-reads g c =
    c.reads_go_on.ensures.behind c.args.machine.now c.walk.new.machine c.deletion_in.new.machine c.args.store.now c.walk.new.store c.deletion_in.new.store (λ p commands. []) _ c.in_ok-leaf.ensures.reads c.deletion_in.ensures.reads

pub returns-clause-answer : goal.returns-clause-answer
returns-clause-answer g c = λ p commands holds done.
    let lo = c.args.map.now.lo in
    let hi = c.args.map.now.hi in
    let s = state_of p commands in
    let fits = ap (λ (q : Params). q.objects) (g.S.Store.view.numbers p (g.M.Machine.disk c.args.machine.now) c.args.store.now commands holds) in
    let below : c.in_ok-leaf.leaf < p.objects = omega (arith, c.in_ok-leaf.ensures.within, c.requires.there, fits) in
    c.deletion_in.ensures.answer p commands (c.reads_go_on.ensures.holds p c.args.machine.now c.walk.new.machine c.args.store.now c.walk.new.store commands c.in_ok-leaf.ensures.reads holds) below done
    ∙ sym (ap (λ (r : Result (Option PageOp) ℕ). found (delete_of r)) (delete_is lo hi s c.args.key.now c.in_ok-leaf.leaf (c.in_ok-leaf.ensures.leaf p commands holds)))
