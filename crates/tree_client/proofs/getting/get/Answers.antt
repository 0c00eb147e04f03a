use Rattle.std.proofs.Common.{refl, sym, ap, ◌∙◌, ℕ, List, [], Ok, Err, Option, arith}
use Rattle.std.specs.FinMap.Entries.{find}
use Rattle.key_entries.specs.Entries.{byte_order}
use Rattle.formats.specs.Objects.{bounds_of}
use Rattle.formats.specs.declared.params.Params.{Params}
use Rattle.logical_btree.specs.Plan.{get_answer}
use Rattle.logical_btree.specs.Walk.{Pair, walk}
use Rattle.tree_client.specs.Answers.{told}
use Rattle.range_calls.specs.Store.{state_of}
use Rattle.tree_client.proofs.PlanLemmas.{bad_way, end_of_way, get_bad, get_found, is_within}
use Rattle.range_calls.specs.ReadLaws.{adds_passed, answers_passed, passed}
use Rattle.tree_client.proofs.getting.get.Goals as goal

pub returns-in_err-end-clause-adds : goal.returns-in_err-end-clause-adds
returns-in_err-end-clause-adds g c = λ p commands holds.
    adds_passed g.S.Store.view c.from_residual.result c.in_err-end.field-0.0 (passed c.from_residual.result c.in_err-end.field-0.0 c.from_residual.ensures.1) (c.in_err-end.ensures.reads.adds p commands holds [] (λ done. refl))

pub returns-in_err-end-clause-answer : goal.returns-in_err-end-clause-answer
returns-in_err-end-clause-answer g c = λ p commands holds.
    let fits = ap (λ (q : Params). q.objects) (c.params.ensures.value ∙ (g.S.Store.view.numbers p (g.M.Machine.disk c.args.machine.now) c.args.store.now commands holds)) in
    let there = is_within (bounds_of p) c.args.tree.now.lo c.args.tree.now.hi (omega (arith, c.last.ensures.order, c.last.ensures.value)) (omega (arith, c.if-last-params.false, c.last.ensures.value, fits)) in
    answers_passed c.from_residual.result c.in_err-end.field-0.0 (told (get_answer (bounds_of p) c.args.tree.now.lo c.args.tree.now.hi (state_of p commands) c.args.key.now))
    (passed c.from_residual.result c.in_err-end.field-0.0 c.from_residual.ensures.1)
    (λ done.
    let bad = bad_way (walk c.args.tree.now.lo c.args.tree.now.hi (state_of p commands) c.args.key.now) c.in_err-end.field-0.0 (c.in_err-end.ensures.answer p commands holds done) in
    ap (λ e. Err e) bad.error ∙ sym (ap told (get_bad (bounds_of p) c.args.tree.now.lo c.args.tree.now.hi (state_of p commands) c.args.key.now there c.in_err-end.field-0.0 bad)))

pub returns-clause-adds : goal.returns-clause-adds
returns-clause-adds g c = λ p commands holds. c.in_ok-end.ensures.reads.adds p commands holds [] (λ done. refl)

pub returns-clause-answer : goal.returns-clause-answer
returns-clause-answer g c = λ p commands holds done.
    let fits = ap (λ (q : Params). q.objects) (c.params.ensures.value ∙ (g.S.Store.view.numbers p (g.M.Machine.disk c.args.machine.now) c.args.store.now commands holds)) in
    let there = is_within (bounds_of p) c.args.tree.now.lo c.args.tree.now.hi (omega (arith, c.last.ensures.order, c.last.ensures.value)) (omega (arith, c.if-last-params.false, c.last.ensures.value, fits)) in
    let found = end_of_way (walk c.args.tree.now.lo c.args.tree.now.hi (state_of p commands) c.args.key.now) c.in_ok-end.end (c.in_ok-end.ensures.answer p commands holds refl) in
    ap (λ (o : Option (List ℕ)). Ok o) (c.value_in.ensures ∙ ap (λ (l : List Pair). find byte_order c.args.key.now l) c.as_slice.ensures.value)
    ∙ sym (ap told (get_found (bounds_of p) c.args.tree.now.lo c.args.tree.now.hi (state_of p commands) c.args.key.now there c.in_ok-end.end found))
