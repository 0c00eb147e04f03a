use Rattle.std.proofs.Common.{◌≡◌, ◌<◌, refl, sym, ap, ◌∙◌, List, [], Ok, Err, arith, option_map}
use Rattle.formats.specs.Objects.{bounds_of}
use Rattle.formats.specs.declared.params.Params.{Params}
use Rattle.page_ops.specs.Page.{Cell}
use Rattle.page_map.specs.Map.{Span}
use Rattle.page_map.specs.Ranges.{and_then, range_answer}
use Rattle.range_calls.specs.ReadLaws.{adds_passed, calls_passed, passed, refused_passed}
use Rattle.range_calls.specs.Store.{state_of}
use Rattle.running_store.specs.Taking.Ending.{Done}
use Rattle.store_engine.specs.Lists.{ending_of}
use Rattle.map_client.specs.Answers.{cause_of, told}
use Rattle.map_client.specs.Ranging.{range_told}
use Rattle.map_client.proofs.RangingLeavesLemmas.{none_before, range_past, range_within}
use Rattle.map_client.proofs.ranging_rise.range.Goals as goal

pub returns-then-last-params-clause-refused : goal.returns-then-last-params-clause-refused
returns-then-last-params-clause-refused g c = λ p commands holds done.
    let span : Span = record { from = c.args.from.now; to = option_map (λ end. end.now) c.args.to } in
    let fits = ap (λ (q : Params). q.objects) (c.params.ensures.value ∙ (g.S.Store.view.numbers p (g.M.Machine.disk c.args.machine.now) c.args.store.now commands holds)) in
    range_past (bounds_of p) c.args.map.now.lo c.args.map.now.hi (state_of p commands) span c.args.limit (omega (arith, c.if-last-params.true, c.last.ensures.value, fits))

pub returns-in_err-range_leaves-clause-calls : goal.returns-in_err-range_leaves-clause-calls
returns-in_err-range_leaves-clause-calls g c = calls_passed g.S.Store.view c.from_residual.result c.in_err-range_leaves.field-0.0 (passed c.from_residual.result c.in_err-range_leaves.field-0.0 c.from_residual.ensures.1) c.in_err-range_leaves.ensures.reads.calls

pub returns-in_err-range_leaves-clause-adds : goal.returns-in_err-range_leaves-clause-adds
returns-in_err-range_leaves-clause-adds g c = λ p commands holds. adds_passed g.S.Store.view c.from_residual.result c.in_err-range_leaves.field-0.0 (passed c.from_residual.result c.in_err-range_leaves.field-0.0 c.from_residual.ensures.1) (c.in_err-range_leaves.ensures.reads.adds p commands holds [] (λ done. refl))

pub returns-in_err-range_leaves-clause-refused : goal.returns-in_err-range_leaves-clause-refused
returns-in_err-range_leaves-clause-refused g c = λ p commands holds.
    let b = bounds_of p in
    let lo = c.args.map.now.lo in
    let hi = c.args.map.now.hi in
    let s = state_of p commands in
    let span : Span = record { from = c.args.from.now; to = option_map (λ end. end.now) c.args.to } in
    let fits = ap (λ (q : Params). q.objects) (c.params.ensures.value ∙ (g.S.Store.view.numbers p (g.M.Machine.disk c.args.machine.now) c.args.store.now commands holds)) in
    let within : hi < b.objects = omega (arith, c.if-last-params.false, c.last.ensures.value, fits) in
    let whole : range_told b lo hi s span c.args.limit ≡ told (and_then (Ok c.new-pairs.result.items) (range_answer lo hi s span c.args.limit)) =
    range_within b lo hi s span c.args.limit within ∙ ap told (sym (ap (λ (l : List Cell). and_then (Ok l) (range_answer lo hi s span c.args.limit)) c.new-pairs.ensures.items ∙ none_before (range_answer lo hi s span c.args.limit))) in
    refused_passed c.from_residual.result c.in_err-range_leaves.field-0.0 (λ e. ending_of (cause_of e) ≡ Done → range_told b lo hi s span c.args.limit ≡ Err e) (passed c.from_residual.result c.in_err-range_leaves.field-0.0 c.from_residual.ensures.1)
    (λ done. whole ∙ c.in_err-range_leaves.ensures.bad p commands holds done)

pub returns-clause-calls : goal.returns-clause-calls
returns-clause-calls g c = c.in_ok-range_leaves.ensures.reads.calls

pub returns-clause-adds : goal.returns-clause-adds
returns-clause-adds g c = λ p commands holds. c.in_ok-range_leaves.ensures.reads.adds p commands holds [] (λ done. refl)

pub returns-clause-found : goal.returns-clause-found
returns-clause-found g c = λ p commands holds.
    let b = bounds_of p in
    let lo = c.args.map.now.lo in
    let hi = c.args.map.now.hi in
    let s = state_of p commands in
    let span : Span = record { from = c.args.from.now; to = option_map (λ end. end.now) c.args.to } in
    let fits = ap (λ (q : Params). q.objects) (c.params.ensures.value ∙ (g.S.Store.view.numbers p (g.M.Machine.disk c.args.machine.now) c.args.store.now commands holds)) in
    let within : hi < b.objects = omega (arith, c.if-last-params.false, c.last.ensures.value, fits) in
    let whole : range_told b lo hi s span c.args.limit ≡ told (and_then (Ok c.new-pairs.result.items) (range_answer lo hi s span c.args.limit)) =
    range_within b lo hi s span c.args.limit within ∙ ap told (sym (ap (λ (l : List Cell). and_then (Ok l) (range_answer lo hi s span c.args.limit)) c.new-pairs.ensures.items ∙ none_before (range_answer lo hi s span c.args.limit))) in
    whole ∙ ap told (c.in_ok-range_leaves.ensures.found p commands holds)
