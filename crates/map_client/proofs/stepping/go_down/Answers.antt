use Rattle.std.proofs.Common.{◌≡◌, refl, sym, ◌∙◌, ℕ, List, Option, None, Some, option_map}
use Rattle.std.proofs.lemmas.Result.{IfOk-weaker}
use Rattle.running_store.specs.Taking.Ending.{Done}
use Rattle.store_engine.specs.Lists.{ending_of}
use Rattle.page_map.specs.Map.{bytes_at}
use Rattle.page_map.specs.Steps.{Step, ended, step_seen}
use Rattle.range_calls.specs.JoinLaws.{not_refused, object_is_there, reads_then}
use Rattle.range_calls.specs.ReadLaws.{passed, refused_passed}
use Rattle.range_calls.specs.Store.{state_of}
use Rattle.map_client.specs.Answers.{bad_map, cause_of}
use Rattle.map_client.specs.Ranging.{step_on}
use Rattle.map_client.proofs.stepping.go_down.Goals as goal

pub returns-in_err-there-clause-bad : goal.returns-in_err-there-clause-bad
returns-in_err-there-clause-bad g c = λ p commands holds below.
    let lo = c.args.map.now.lo in
    let hi = c.args.map.now.hi in
    let to : Option (List ℕ) = option_map (λ v. v.items) c.args.at.to in
    refused_passed c.from_residual.result c.in_err-there.field-0.0
    (λ e. ending_of (cause_of e) ≡ Done → (step_on lo hi c.args.level (bytes_at lo (state_of p commands) c.args.at.object) to c.args.key.now ≡ None) × (e ≡ bad_map c.args.at.object))
    (passed c.from_residual.result c.in_err-there.field-0.0 c.from_residual.ensures.1) (λ done. absurd (c.in_err-there.ensures.failed done))

pub returns-then-not-there-clause-bad : goal.returns-then-not-there-clause-bad
returns-then-not-there-clause-bad g c = λ p commands holds below done.
    absurd (object_is_there _ p c.args.at.object (g.S.Store.view.numbers p (g.M.Machine.disk c.args.machine.now) c.args.store.now commands holds) below (sym c.if-not-there.true ∙ c.in_ok-there.ensures.there))

pub returns-in-Some-clause-reads : goal.returns-in-Some-clause-reads
returns-in-Some-clause-reads g c =
    reads_then g.S.Store.view g.M.Machine.disk c.reads_run_short.ensures c.args.machine.now c.see.new.machine c.args.store.now c.see.new.store c.further.result c.in_ok-there.ensures.reads c.further.ensures.memory

pub returns-in-Some-clause-found : goal.returns-in-Some-clause-found
returns-in-Some-clause-found g c = λ p commands holds.
    let lo = c.args.map.now.lo in
    let hi = c.args.map.now.hi in
    let x : ℕ = c.args.at.object in
    let to : Option (List ℕ) = option_map (λ v. v.items) c.args.at.to in
    let value : c.get.result.now ≡ state_of p commands x = c.get.ensures.value ∙ c.in_ok-there.ensures.value p commands holds c.if-not-there.false in
    let bytes : c.bytes.result.now ≡ bytes_at lo (state_of p commands) x = c.bytes.ensures (state_of p commands) (sym value) in
    let step : Step = step_seen c.in-Some.step in
    let found : step_on lo hi c.args.level (bytes_at lo (state_of p commands) x) to c.args.key.now ≡ Some step =
    sym (c.in-Some.ensures ∙ (λ k. step_on lo hi c.args.level (bytes k) (c.end_bytes.ensures k) c.args.key.now)) in
    IfOk-weaker c.further.result (λ stop. (stop.object ≡ step.object) × (option_map (λ v. v.items) stop.to ≡ ended to step.end))
    (λ next. (step : Step) × (step_on lo hi c.args.level (bytes_at lo (state_of p commands) x) to c.args.key.now ≡ Some step) × (next.object ≡ step.object) × (option_map (λ v. v.items) next.to ≡ ended to step.end))
    (λ next parts. (step, found, parts.0, parts.1)) c.further.ensures.stop

pub returns-in-Some-clause-bad : goal.returns-in-Some-clause-bad
returns-in-Some-clause-bad g c = λ p commands holds below.
    let lo = c.args.map.now.lo in
    let hi = c.args.map.now.hi in
    let to : Option (List ℕ) = option_map (λ v. v.items) c.args.at.to in
    not_refused c.further.result
    (λ e. (step_on lo hi c.args.level (bytes_at lo (state_of p commands) c.args.at.object) to c.args.key.now ≡ None) × (e ≡ bad_map c.args.at.object)) c.further.ensures.memory

pub returns-in-None-clause-bad : goal.returns-in-None-clause-bad
returns-in-None-clause-bad g c = λ p commands holds below done.
    let lo = c.args.map.now.lo in
    let hi = c.args.map.now.hi in
    let x : ℕ = c.args.at.object in
    let value : c.get.result.now ≡ state_of p commands x = c.get.ensures.value ∙ c.in_ok-there.ensures.value p commands holds c.if-not-there.false in
    let bytes : c.bytes.result.now ≡ bytes_at lo (state_of p commands) x = c.bytes.ensures (state_of p commands) (sym value) in
    (sym (c.in-None.ensures ∙ (λ k. step_on lo hi c.args.level (bytes k) (c.end_bytes.ensures k) c.args.key.now)), refl)
