use Rattle.std.proofs.Common.{◌≡◌, ◌<◌, ℕ, Result, Ok, Err, [], refl, sym, ap, ◌∙◌, arith}
use Rattle.formats.specs.Objects.{bounds_of}
use Rattle.formats.specs.declared.params.Params.{Params}
use Rattle.page_map.specs.Checks.{Met, check}
use Rattle.running_store.specs.Taking.Ending.{Done}
use Rattle.store_engine.specs.Lists.{ending_of}
use Rattle.range_calls.specs.ReadLaws.{adds_passed, calls_passed, passed, refused_passed}
use Rattle.range_calls.specs.Store.{state_of}
use Rattle.map_client.specs.Answers.{MapErr, cause_of, told}
use Rattle.map_client.specs.Checking.{check_told, counts}
use Rattle.map_client.specs.declared.checked.Checked.{Checked}
use Rattle.map_client.proofs.CheckLemmas.{bad_told, check_past, check_within}
use Rattle.map_client.proofs.checking.check.Goals as goal

pub returns-then-last-params-clause-refused : goal.returns-then-last-params-clause-refused
returns-then-last-params-clause-refused g c = λ p commands holds done.
    let fits = ap (λ (q : Params). q.objects) (c.params.ensures.value ∙ (g.S.Store.view.numbers p (g.M.Machine.disk c.args.machine.now) c.args.store.now commands holds)) in
    check_past (bounds_of p) c.args.map.now (state_of p commands) (omega (arith, c.if-last-params.true, c.last.ensures.value, fits))

pub checked_pages-requires-clause-there : goal.checked_pages-requires-clause-there
checked_pages-requires-clause-there g c = omega (arith, c.if-last-params.false, c.last.ensures.value, ap (λ (q : Params). q.objects) c.params.ensures.value)

pub returns-in_err-check-clause-calls : goal.returns-in_err-check-clause-calls
returns-in_err-check-clause-calls g c =
    let e = c.in_err-check.field-0.0 in
    calls_passed g.S.Store.view c.from_residual.result e (passed c.from_residual.result e c.from_residual.ensures.1) c.in_err-check.ensures.reads.calls

pub returns-in_err-check-clause-adds : goal.returns-in_err-check-clause-adds
returns-in_err-check-clause-adds g c = λ p commands holds.
    let e = c.in_err-check.field-0.0 in
    adds_passed g.S.Store.view c.from_residual.result e (passed c.from_residual.result e c.from_residual.ensures.1) (c.in_err-check.ensures.reads.adds p commands holds [] (λ done. refl))

pub returns-in_err-check-clause-refused : goal.returns-in_err-check-clause-refused
returns-in_err-check-clause-refused g c = λ p commands holds.
    let b = bounds_of p in
    let s = state_of p commands in
    let range = c.args.map.now in
    let e = c.in_err-check.field-0.0 in
    let fits = ap (λ (q : Params). q.objects) (c.params.ensures.value ∙ (g.S.Store.view.numbers p (g.M.Machine.disk c.args.machine.now) c.args.store.now commands holds)) in
    let within : range.hi < b.objects = omega (arith, c.if-last-params.false, c.last.ensures.value, fits) in
    refused_passed c.from_residual.result e (λ e. ending_of (cause_of e) ≡ Done → check_told b range s ≡ Err e) (passed c.from_residual.result e c.from_residual.ensures.1)
    (λ done. check_within b range s within ∙ bad_told (check range s) e (c.in_err-check.ensures.bad p commands holds done))

pub returns-clause-calls : goal.returns-clause-calls
returns-clause-calls g c = c.in_ok-check.ensures.reads.calls

pub returns-clause-adds : goal.returns-clause-adds
returns-clause-adds g c = λ p commands holds. c.in_ok-check.ensures.reads.adds p commands holds [] (λ done. refl)

pub returns-clause-found : goal.returns-clause-found
returns-clause-found g c = λ p commands holds.
    let b = bounds_of p in
    let s = state_of p commands in
    let range = c.args.map.now in
    let fits = ap (λ (q : Params). q.objects) (c.params.ensures.value ∙ (g.S.Store.view.numbers p (g.M.Machine.disk c.args.machine.now) c.args.store.now commands holds)) in
    let within : range.hi < b.objects = omega (arith, c.if-last-params.false, c.last.ensures.value, fits) in
    check_within b range s within ∙ ap (λ (r : Result Met ℕ). told (counts r)) (c.in_ok-check.ensures.met p commands holds)
    ∙ (λ k. (let r : Result Checked MapErr = Ok (record { pages = sym c.pages.ensures k; keys = sym c.keys.ensures k; past = sym c.past.ensures k }) in r))
