use Rattle.std.proofs.Common.{◌≡◌, ◌≤◌, sym, subst, ap, ◌∙◌, ℕ, List, Option, Some, Result, Err, option_map}
use Rattle.std.proofs.lemmas.Result.{IfOk-weaker}
use Rattle.running_store.specs.Taking.Ending.{Done}
use Rattle.store_engine.specs.Lists.{ending_of}
use Rattle.page_ops.specs.declared.page_op.PageOp.{PageOp}
use Rattle.page_map.specs.Deletes.{tidy_from}
use Rattle.page_map.specs.Map.{bytes_at}
use Rattle.page_map.specs.Steps.{Step, ended, step_seen}
use Rattle.page_map.specs.declared.beside.Beside.{Beside}
use Rattle.range_calls.specs.JoinLaws.{not_refused, object_is_there, reads_then}
use Rattle.range_calls.specs.ReadLaws.{nothing_passed, passed, refused_passed}
use Rattle.range_calls.specs.Store.{state_of}
use Rattle.map_client.specs.Answers.{cause_of, told}
use Rattle.map_client.specs.Tidying.{StandsIn, both_on, leaf_turn}
use Rattle.map_client.proofs.TidyLemmas.{both_within, leaf_bad, leaf_found}
use Rattle.map_client.proofs.tidying.leaf_under.Goals as goal

pub returns-in_err-there-clause-found : goal.returns-in_err-there-clause-found
returns-in_err-there-clause-found g c = λ p commands holds.
    let way = c.args.way.now in
    let lo = way.map.now.lo in
    let hi = way.map.now.hi in
    let s = state_of p commands in
    let e = c.in_err-there.field-0.0 in
    nothing_passed c.from_residual.result e
    (λ found. (found.leaf.object ≤ hi) × StandsIn hi found.beside × (tidy_from lo hi s way.key.now 1 c.args.at.object (option_map (λ v. v.items) c.args.at.to)
    ≡ leaf_turn lo hi s found.above found.place found.leaf.object found.from.items (option_map (λ v. v.items) found.leaf.to) found.beside))
    (passed c.from_residual.result e c.from_residual.ensures.1)

pub returns-in_err-there-clause-bad : goal.returns-in_err-there-clause-bad
returns-in_err-there-clause-bad g c = λ p commands holds below.
    let way = c.args.way.now in
    let r : Result (List PageOp) ℕ = tidy_from way.map.now.lo way.map.now.hi (state_of p commands) way.key.now 1 c.args.at.object (option_map (λ v. v.items) c.args.at.to) in
    let e = c.in_err-there.field-0.0 in
    refused_passed c.from_residual.result e (λ x. ending_of (cause_of x) ≡ Done → told r ≡ Err x)
    (passed c.from_residual.result e c.from_residual.ensures.1) (λ done. absurd (c.in_err-there.ensures.failed done))

pub returns-then-not-there-clause-bad : goal.returns-then-not-there-clause-bad
returns-then-not-there-clause-bad g c = λ p commands holds below done.
    absurd (object_is_there _ p c.args.at.object (g.S.Store.view.numbers p (g.M.Machine.disk c.args.machine.now) c.args.store.now commands holds) below (sym c.if-not-there.true ∙ c.in_ok-there.ensures.there))

pub returns-in-Some-clause-reads : goal.returns-in-Some-clause-reads
returns-in-Some-clause-reads g c =
    reads_then g.S.Store.view g.M.Machine.disk c.reads_run_short.ensures c.args.machine.now c.see.new.machine c.args.store.now c.see.new.store c.leaf_of.result c.in_ok-there.ensures.reads c.leaf_of.ensures.memory

-- what the page above says
pub returns-in-Some-clause-found : goal.returns-in-Some-clause-found
returns-in-Some-clause-found g c = λ p commands holds.
    let way = c.args.way.now in
    let lo = way.map.now.lo in
    let hi = way.map.now.hi in
    let s = state_of p commands in
    let x : ℕ = c.args.at.object in
    let to : Option (List ℕ) = option_map (λ v. v.items) c.args.at.to in
    let value : c.get.result.now ≡ s x = c.get.ensures.value ∙ c.in_ok-there.ensures.value p commands holds c.if-not-there.false in
    let bytes : c.bytes.result.now ≡ bytes_at lo s x = c.bytes.ensures s (sym value) in
    let step : Step = step_seen c.in-Some.step in
    let beside : Beside = c.in-Some.beside in
    let is : both_on lo hi (bytes_at lo s x) to way.key.now ≡ Some (step, beside) = sym (c.in-Some.ensures ∙ (λ k. both_on lo hi (bytes k) (c.end_bytes.ensures k) way.key.now)) in
    let inside = both_within lo hi (bytes_at lo s x) to way.key.now step beside is in
    let turn = leaf_found lo hi s way.key.now x to step beside is in
    IfOk-weaker c.leaf_of.result
    (λ found. (found.above ≡ x) × (found.place ≡ step.place) × (found.from.items ≡ step.from) × (found.beside ≡ beside) × (found.leaf.object ≡ step.object) × (option_map (λ v. v.items) found.leaf.to ≡ ended to step.end))
    (λ found. (found.leaf.object ≤ hi) × StandsIn hi found.beside × (tidy_from lo hi s way.key.now 1 x to
    ≡ leaf_turn lo hi s found.above found.place found.leaf.object found.from.items (option_map (λ v. v.items) found.leaf.to) found.beside))
    (λ found parts. (
      subst (λ (y : ℕ). y ≤ hi) (sym parts.4) inside.0,
      subst (StandsIn hi) (sym parts.3) inside.1,
      turn ∙ (λ k. leaf_turn lo hi s (sym parts.0 k) (sym parts.1 k) (sym parts.4 k) (sym parts.2 k) (sym parts.5 k) (sym parts.3 k)),
    )) c.leaf_of.ensures.leaf

pub returns-in-Some-clause-bad : goal.returns-in-Some-clause-bad
returns-in-Some-clause-bad g c = λ p commands holds below.
    let way = c.args.way.now in
    let r : Result (List PageOp) ℕ = tidy_from way.map.now.lo way.map.now.hi (state_of p commands) way.key.now 1 c.args.at.object (option_map (λ v. v.items) c.args.at.to) in
    not_refused c.leaf_of.result (λ e. told r ≡ Err e) c.leaf_of.ensures.memory

pub returns-in-None-clause-bad : goal.returns-in-None-clause-bad
returns-in-None-clause-bad g c = λ p commands holds below done.
    let way = c.args.way.now in
    let lo = way.map.now.lo in
    let hi = way.map.now.hi in
    let s = state_of p commands in
    let x : ℕ = c.args.at.object in
    let to : Option (List ℕ) = option_map (λ v. v.items) c.args.at.to in
    let value : c.get.result.now ≡ s x = c.get.ensures.value ∙ c.in_ok-there.ensures.value p commands holds c.if-not-there.false in
    let bytes : c.bytes.result.now ≡ bytes_at lo s x = c.bytes.ensures s (sym value) in
    ap told (leaf_bad lo hi s way.key.now x to (sym (c.in-None.ensures ∙ (λ k. both_on lo hi (bytes k) (c.end_bytes.ensures k) way.key.now))))
