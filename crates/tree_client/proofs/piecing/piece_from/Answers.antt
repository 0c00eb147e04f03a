use Rattle.std.proofs.Common.{◌≡◌, refl, ap, ◌∙◌, [], Err, arith}
use Rattle.formats.specs.Objects.{bounds_of}
use Rattle.formats.specs.declared.params.Params.{Params}
use Rattle.logical_btree.specs.Plan.{get_answer}
use Rattle.running_store.specs.Taking.Ending.{Done}
use Rattle.store_engine.specs.Lists.{ending_of}
use Rattle.range_calls.specs.ReadLaws.{adds_passed, calls_passed, nothing_passed, passed, refused_passed}
use Rattle.range_calls.specs.Store.{state_of}
use Rattle.tree_client.specs.Answers.{TreeErr, cause_of, told}
use Rattle.tree_client.proofs.PieceLemmas.{get_there, span_found}
use Rattle.tree_client.proofs.PlanLemmas.{is_within}
use Rattle.tree_client.proofs.piecing.piece_from.Goals as goal

pub returns-in_err-found-clause-adds : goal.returns-in_err-found-clause-adds
returns-in_err-found-clause-adds g c = λ p commands holds.
    adds_passed g.S.Store.view c.from_residual.result c.in_err-found.field-0.0 (passed c.from_residual.result c.in_err-found.field-0.0 c.from_residual.ensures.1) (c.in_err-found.ensures.reads.adds p commands holds [] (λ done. refl))

pub returns-in_err-found-clause-calls : goal.returns-in_err-found-clause-calls
returns-in_err-found-clause-calls g c = calls_passed g.S.Store.view c.from_residual.result c.in_err-found.field-0.0 (passed c.from_residual.result c.in_err-found.field-0.0 c.from_residual.ensures.1) c.in_err-found.ensures.reads.calls

pub returns-in_err-found-clause-pairs : goal.returns-in_err-found-clause-pairs
returns-in_err-found-clause-pairs g c = λ p commands holds.
    nothing_passed c.from_residual.result c.in_err-found.field-0.0 _ (passed c.from_residual.result c.in_err-found.field-0.0 c.from_residual.ensures.1)

pub returns-in_err-found-clause-rising : goal.returns-in_err-found-clause-rising
returns-in_err-found-clause-rising g c = nothing_passed c.from_residual.result c.in_err-found.field-0.0 _ (passed c.from_residual.result c.in_err-found.field-0.0 c.from_residual.ensures.1)

pub returns-in_err-found-clause-refused : goal.returns-in_err-found-clause-refused
returns-in_err-found-clause-refused g c = λ p commands holds.
    let s = state_of p commands in
    let lo = c.args.tree.now.lo in
    let hi = c.args.tree.now.hi in
    let fits = ap (λ (q : Params). q.objects) (c.params.ensures.value ∙ (g.S.Store.view.numbers p (g.M.Machine.disk c.args.machine.now) c.args.store.now commands holds)) in
    let there = is_within (bounds_of p) lo hi (omega (arith, c.last.ensures.order, c.last.ensures.value)) (omega (arith, c.if-last-params.false, c.last.ensures.value, fits)) in
    refused_passed c.from_residual.result c.in_err-found.field-0.0 (λ (e : TreeErr). ending_of (cause_of e) ≡ Done → told (get_answer (bounds_of p) lo hi s c.args.from.now) ≡ Err e)
    (passed c.from_residual.result c.in_err-found.field-0.0 c.from_residual.ensures.1)
    (λ done. ap (λ r. told r) (get_there (bounds_of p) lo hi s c.args.from.now there) ∙ c.in_err-found.ensures.bad p commands holds done)

pub returns-clause-adds : goal.returns-clause-adds
returns-clause-adds g c = λ p commands holds. c.in_ok-found.ensures.reads.adds p commands holds [] (λ done. refl)

pub returns-clause-pairs : goal.returns-clause-pairs
returns-clause-pairs g c = λ p commands holds.
    let lo = c.args.tree.now.lo in
    let hi = c.args.tree.now.hi in
    let fits = ap (λ (q : Params). q.objects) (c.params.ensures.value ∙ (g.S.Store.view.numbers p (g.M.Machine.disk c.args.machine.now) c.args.store.now commands holds)) in
    let there = is_within (bounds_of p) lo hi (omega (arith, c.last.ensures.order, c.last.ensures.value)) (omega (arith, c.if-last-params.false, c.last.ensures.value, fits)) in
    span_found (bounds_of p) lo hi (state_of p commands) (record { from = c.args.from.now; to = c.in_ok-found.found.next }) c.in_ok-found.found.pairs.items there (c.in_ok-found.ensures.pairs p commands holds)
