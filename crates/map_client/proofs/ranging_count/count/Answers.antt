use Rattle.std.proofs.Common.{◌≡◌, ◌<◌, refl, ap, ◌∙◌, [], Ok, Err, arith, option_map}
use Rattle.std.proofs.lemmas.Result.{IfOk-weaker}
use Rattle.formats.specs.Objects.{bounds_of}
use Rattle.formats.specs.declared.params.Params.{Params}
use Rattle.page_map.specs.Map.{Span}
use Rattle.page_map.specs.Ranges.{count_answer}
use Rattle.running_store.specs.Taking.Ending.{Done}
use Rattle.store_engine.specs.Lists.{ending_of}
use Rattle.range_calls.specs.Store.{state_of}
use Rattle.map_client.specs.Answers.{cause_of, told}
use Rattle.map_client.specs.Ranging.{count_told}
use Rattle.map_client.proofs.RangingCountLemmas.{count_past, count_within}
use Rattle.map_client.proofs.WalkLemmas.{if_err_then}
use Rattle.map_client.proofs.ranging_count.count.Goals as goal

pub returns-then-last-params-clause-refused : goal.returns-then-last-params-clause-refused
returns-then-last-params-clause-refused g c = λ p commands holds done.
    let span : Span = record { from = c.args.from.now; to = option_map (λ end. end.now) c.args.to } in
    let fits = ap (λ (q : Params). q.objects) (c.params.ensures.value ∙ (g.S.Store.view.numbers p (g.M.Machine.disk c.args.machine.now) c.args.store.now commands holds)) in
    count_past (bounds_of p) c.args.map.now.lo c.args.map.now.hi (state_of p commands) span (omega (arith, c.if-last-params.true, c.last.ensures.value, fits))

pub returns-clause-calls : goal.returns-clause-calls
returns-clause-calls g c = c.count_leaves.ensures.reads.calls

pub returns-clause-adds : goal.returns-clause-adds
returns-clause-adds g c = λ p commands holds. c.count_leaves.ensures.reads.adds p commands holds [] (λ done. refl)

pub returns-clause-found : goal.returns-clause-found
returns-clause-found g c = λ p commands holds.
    let b = bounds_of p in
    let lo = c.args.map.now.lo in
    let hi = c.args.map.now.hi in
    let s = state_of p commands in
    let span : Span = record { from = c.args.from.now; to = option_map (λ end. end.now) c.args.to } in
    let fits = ap (λ (q : Params). q.objects) (c.params.ensures.value ∙ (g.S.Store.view.numbers p (g.M.Machine.disk c.args.machine.now) c.args.store.now commands holds)) in
    let within : hi < b.objects = omega (arith, c.if-last-params.false, c.last.ensures.value, fits) in
    IfOk-weaker c.count_leaves.result (λ count. count_answer lo hi s span ≡ Ok count) (λ count. count_told b lo hi s span ≡ Ok count)
    (λ count is. count_within b lo hi s span within ∙ ap told is) (c.count_leaves.ensures.found p commands holds)

pub returns-clause-refused : goal.returns-clause-refused
returns-clause-refused g c = λ p commands holds.
    let b = bounds_of p in
    let lo = c.args.map.now.lo in
    let hi = c.args.map.now.hi in
    let s = state_of p commands in
    let span : Span = record { from = c.args.from.now; to = option_map (λ end. end.now) c.args.to } in
    let fits = ap (λ (q : Params). q.objects) (c.params.ensures.value ∙ (g.S.Store.view.numbers p (g.M.Machine.disk c.args.machine.now) c.args.store.now commands holds)) in
    let within : hi < b.objects = omega (arith, c.if-last-params.false, c.last.ensures.value, fits) in
    if_err_then c.count_leaves.result (λ e. ending_of (cause_of e) ≡ Done → told (count_answer lo hi s span) ≡ Err e) (λ e. ending_of (cause_of e) ≡ Done → count_told b lo hi s span ≡ Err e)
    (λ e is done. count_within b lo hi s span within ∙ is done) (c.count_leaves.ensures.bad p commands holds)
