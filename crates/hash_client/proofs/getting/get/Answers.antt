use Rattle.std.proofs.Common.{◌≡◌, ◌≤◌, refl, sym, ap, ◌∙◌, subst, ℕ, List, [], Option, Ok, Err, Result, arith}
use Rattle.std.specs.FinMap.Entries.{find}
use Rattle.key_entries.specs.Entries.{byte_order}
use Rattle.formats.specs.Objects.{bounds_of}
use Rattle.formats.specs.declared.params.Params.{Params}
use Rattle.hash_file.specs.Find.{find_bucket, unused, bad, found}
use Rattle.hash_file.specs.Plan.{get_answer}
use Rattle.hash_file.specs.declared.refusal.HashRefusal.{HashRefusal}
use Rattle.range_calls.specs.Answers.{told}
use Rattle.range_calls.specs.ReadLaws.{adds_passed, answers_passed, passed}
use Rattle.range_calls.specs.Store.{state_of}
use Rattle.range_calls.specs.declared.call_err.CallErr.{CallErr}
use Rattle.hash_client.specs.Finding.{met_answer}
use Rattle.hash_client.specs.declared.finding.Found.{Found}
use Rattle.hash_client.proofs.FindLemmas.{bad_met, found_met, unused_met}
use Rattle.hash_client.proofs.PutLemmas.{get_met, get_past, is_within}
use Rattle.hash_client.proofs.getting.get.Goals as goal

pub returns-then-last-params-clause-answer : goal.returns-then-last-params-clause-answer
returns-then-last-params-clause-answer g c = λ p commands holds done.
    let b = bounds_of p in
    let s = state_of p commands in
    let lo = c.args.file.now.lo in
    let hi = c.args.file.now.hi in
    let key = c.args.key.now in
    let fits = ap (λ (q : Params). q.objects) (c.params.ensures.value ∙ (g.S.Store.view.numbers p (g.M.Machine.disk c.args.machine.now) c.args.store.now commands holds)) in
    let past : p.objects ≤ hi = omega (arith, c.if-last-params.true, c.last.ensures.value, fits) in
    sym (ap told (get_past b lo hi s key past))

pub returns-in_err-met-clause-adds : goal.returns-in_err-met-clause-adds
returns-in_err-met-clause-adds g c = λ p commands holds.
    adds_passed g.S.Store.view c.from_residual.result c.in_err-met.field-0.0 (passed c.from_residual.result c.in_err-met.field-0.0 c.from_residual.ensures.1) (c.in_err-met.ensures.reads.adds p commands holds [] (λ done. refl))

pub returns-in_err-met-clause-answer : goal.returns-in_err-met-clause-answer
returns-in_err-met-clause-answer g c = λ p commands holds.
    let b = bounds_of p in
    let s = state_of p commands in
    let lo = c.args.file.now.lo in
    let hi = c.args.file.now.hi in
    let key = c.args.key.now in
    let fits = ap (λ (q : Params). q.objects) (c.params.ensures.value ∙ (g.S.Store.view.numbers p (g.M.Machine.disk c.args.machine.now) c.args.store.now commands holds)) in
    let there = is_within b lo hi (omega (arith, c.last.ensures.order, c.last.ensures.value)) (omega (arith, c.if-last-params.false, c.last.ensures.value, fits)) in
    answers_passed c.from_residual.result c.in_err-met.field-0.0 (told (get_answer b lo hi s key)) (passed c.from_residual.result c.in_err-met.field-0.0 c.from_residual.ensures.1)
    (λ done.
    let wrong = bad_met (find_bucket lo hi s key) c.in_err-met.field-0.0 (c.in_err-met.ensures.answer p commands holds done) in
    ap (λ (e : CallErr HashRefusal). (let r : Result (Option (List ℕ)) (CallErr HashRefusal) = Err e in r)) wrong.error
    ∙ sym (ap told (get_met b lo hi s key there (bad wrong.object) wrong.met)))

pub returns-in-Some-clause-adds : goal.returns-in-Some-clause-adds
returns-in-Some-clause-adds g c = λ p commands holds. c.in_ok-met.ensures.reads.adds p commands holds [] (λ done. refl)

pub returns-in-None-clause-adds : goal.returns-in-None-clause-adds
returns-in-None-clause-adds g c = λ p commands holds. c.in_ok-met.ensures.reads.adds p commands holds [] (λ done. refl)

pub returns-in-Some-clause-answer : goal.returns-in-Some-clause-answer
returns-in-Some-clause-answer g c = λ p commands holds done.
    let b = bounds_of p in
    let s = state_of p commands in
    let lo = c.args.file.now.lo in
    let hi = c.args.file.now.hi in
    let key = c.args.key.now in
    let fits = ap (λ (q : Params). q.objects) (c.params.ensures.value ∙ (g.S.Store.view.numbers p (g.M.Machine.disk c.args.machine.now) c.args.store.now commands holds)) in
    let there = is_within b lo hi (omega (arith, c.last.ensures.order, c.last.ensures.value)) (omega (arith, c.if-last-params.false, c.last.ensures.value, fits)) in
    let is = subst (λ (o : Option Found). Ok o ≡ met_answer (find_bucket lo hi s key)) c.in-Some.is (c.in_ok-met.ensures.answer p commands holds refl) in
    ap (λ (o : Option (List ℕ)). (let r : Result (Option (List ℕ)) (CallErr HashRefusal) = Ok o in r)) (c.value_in.ensures ∙ ap (λ (l : List (List ℕ × List ℕ)). find byte_order key l) c.as_slice.ensures.value)
    ∙ sym (ap told (get_met b lo hi s key there (found c.in-Some.found.object c.in-Some.found.bucket) (found_met (find_bucket lo hi s key) c.in-Some.found is)))

pub returns-in-None-clause-answer : goal.returns-in-None-clause-answer
returns-in-None-clause-answer g c = λ p commands holds done.
    let b = bounds_of p in
    let s = state_of p commands in
    let lo = c.args.file.now.lo in
    let hi = c.args.file.now.hi in
    let key = c.args.key.now in
    let fits = ap (λ (q : Params). q.objects) (c.params.ensures.value ∙ (g.S.Store.view.numbers p (g.M.Machine.disk c.args.machine.now) c.args.store.now commands holds)) in
    let there = is_within b lo hi (omega (arith, c.last.ensures.order, c.last.ensures.value)) (omega (arith, c.if-last-params.false, c.last.ensures.value, fits)) in
    let is = subst (λ (o : Option Found). Ok o ≡ met_answer (find_bucket lo hi s key)) c.in-None.is (c.in_ok-met.ensures.answer p commands holds refl) in
    sym (ap told (get_met b lo hi s key there unused (unused_met (find_bucket lo hi s key) is)))
