use Rattle.std.proofs.Common.{◌≡◌, ap, ◌∙◌, sym, ℕ, List, Option, Ok, Err, option_map}
use Rattle.std.proofs.lemmas.Result.{IfOk-weaker}
use Rattle.running_store.specs.Taking.Ending.{Done}
use Rattle.store_engine.specs.Lists.{ending_of}
use Rattle.page_map.specs.Map.{bytes_at}
use Rattle.page_map.specs.Walk.{get_at, walk_from}
use Rattle.range_calls.specs.JoinLaws.{not_refused, object_is_there, reads_then}
use Rattle.range_calls.specs.ReadLaws.{passed, refused_passed}
use Rattle.range_calls.specs.Store.{state_of}
use Rattle.map_client.specs.Answers.{cause_of, told}
use Rattle.map_client.specs.Reading.{found_on}
use Rattle.map_client.proofs.WalkLemmas.{leaf_bad, leaf_found}
use Rattle.map_client.proofs.getting.value_at.Goals as goal

pub returns-in_err-there-clause-bad : goal.returns-in_err-there-clause-bad
returns-in_err-there-clause-bad g c = λ p commands holds below.
    let lo = c.args.map.now.lo in
    let hi = c.args.map.now.hi in
    let s = state_of p commands in
    refused_passed c.from_residual.result c.in_err-there.field-0.0
    (λ e. ending_of (cause_of e) ≡ Done → told (get_at lo s c.args.key.now (walk_from lo hi s c.args.key.now 0 c.args.leaf)) ≡ Err e)
    (passed c.from_residual.result c.in_err-there.field-0.0 c.from_residual.ensures.1) (λ done. absurd (c.in_err-there.ensures.failed done))

pub returns-then-not-there-clause-bad : goal.returns-then-not-there-clause-bad
returns-then-not-there-clause-bad g c = λ p commands holds below done.
    absurd (object_is_there _ p c.args.leaf (g.S.Store.view.numbers p (g.M.Machine.disk c.args.machine.now) c.args.store.now commands holds) below (sym c.if-not-there.true ∙ c.in_ok-there.ensures.there))

pub returns-in-Some-clause-reads : goal.returns-in-Some-clause-reads
returns-in-Some-clause-reads g c =
    reads_then g.S.Store.view g.M.Machine.disk c.reads_run_short.ensures c.args.machine.now c.see.new.machine c.args.store.now c.see.new.store c.copied.result c.in_ok-there.ensures.reads c.copied.ensures.memory

pub returns-in-Some-clause-found : goal.returns-in-Some-clause-found
returns-in-Some-clause-found g c = λ p commands holds.
    let lo = c.args.map.now.lo in
    let hi = c.args.map.now.hi in
    let s = state_of p commands in
    let value : c.get.result.now ≡ state_of p commands c.args.leaf = c.get.ensures.value ∙ c.in_ok-there.ensures.value p commands holds c.if-not-there.false in
    let bytes : c.bytes.result.now ≡ bytes_at c.args.map.now.lo (state_of p commands) c.args.leaf = c.bytes.ensures (state_of p commands) (sym value) in
    let found = leaf_found lo hi s c.args.key.now c.args.leaf (option_map (λ v. v.now) c.in-Some.found) (sym (c.in-Some.ensures ∙ ap (λ (l : List ℕ). found_on l c.args.key.now) bytes)) in
    IfOk-weaker c.copied.result (λ copy. option_map (λ v. v.items) copy ≡ option_map (λ v. v.now) c.in-Some.found)
    (λ copy. get_at lo s c.args.key.now (walk_from lo hi s c.args.key.now 0 c.args.leaf) ≡ Ok (option_map (λ v. v.items) copy))
    (λ copy same. found ∙ ap (λ (o : Option (List ℕ)). Ok o) (sym same)) c.copied.ensures.value

pub returns-in-Some-clause-bad : goal.returns-in-Some-clause-bad
returns-in-Some-clause-bad g c = λ p commands holds below.
    let lo = c.args.map.now.lo in
    let hi = c.args.map.now.hi in
    let s = state_of p commands in
    not_refused c.copied.result (λ e. told (get_at lo s c.args.key.now (walk_from lo hi s c.args.key.now 0 c.args.leaf)) ≡ Err e) c.copied.ensures.memory

pub returns-in-None-clause-bad : goal.returns-in-None-clause-bad
returns-in-None-clause-bad g c = λ p commands holds below done.
    let lo = c.args.map.now.lo in
    let hi = c.args.map.now.hi in
    let s = state_of p commands in
    let value : c.get.result.now ≡ state_of p commands c.args.leaf = c.get.ensures.value ∙ c.in_ok-there.ensures.value p commands holds c.if-not-there.false in
    let bytes : c.bytes.result.now ≡ bytes_at c.args.map.now.lo (state_of p commands) c.args.leaf = c.bytes.ensures (state_of p commands) (sym value) in
    ap told (leaf_bad lo hi s c.args.key.now c.args.leaf (sym (c.in-None.ensures ∙ ap (λ (l : List ℕ). found_on l c.args.key.now) bytes)))
