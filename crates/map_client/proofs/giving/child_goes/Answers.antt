use Rattle.std.proofs.Common.{◌≡◌, ap, ◌∙◌, sym, List, ℕ, Some, Result, Ok}
use Rattle.page_map.specs.Deletes.{child_goes}
use Rattle.page_map.specs.Map.{bytes_at}
use Rattle.range_calls.specs.JoinLaws.{object_is_there}
use Rattle.range_calls.specs.ReadLaws.{answers_passed, passed}
use Rattle.range_calls.specs.Store.{Command, state_of}
use Rattle.map_client.specs.Answers.{MapErr}
use Rattle.map_client.specs.Tidying.{stored, taken_on}
use Rattle.map_client.proofs.TidyLemmas.{stored_at, taken_is}
use Rattle.map_client.proofs.giving.child_goes.Goals as goal

pub returns-in_err-there-clause-answer : goal.returns-in_err-there-clause-answer
returns-in_err-there-clause-answer g c = λ p commands holds below.
    let way = c.args.way.now in
    let e = c.in_err-there.field-0.0 in
    answers_passed c.from_residual.result e (stored (child_goes way.map.now.lo way.map.now.hi (state_of p commands) c.args.level (Some (Some c.args.child))))
    (passed c.from_residual.result e c.from_residual.ensures.1) (λ done. absurd (c.in_err-there.ensures.failed done))

pub returns-then-not-there-clause-answer : goal.returns-then-not-there-clause-answer
returns-then-not-there-clause-answer g c = λ p commands holds below done.
    absurd (object_is_there _ p c.args.child (g.S.Store.view.numbers p (g.M.Machine.disk c.args.machine.now) c.args.store.now commands holds) below (sym c.if-not-there.true ∙ c.in_ok-there.ensures.there))

-- what the child's bytes say
pub returns-in-Some-clause-answer : goal.returns-in-Some-clause-answer
returns-in-Some-clause-answer g c = λ p commands holds below done.
    let way = c.args.way.now in
    let lo = way.map.now.lo in
    let hi = way.map.now.hi in
    let s = state_of p commands in
    let x : ℕ = c.args.child in
    let value : c.get.result.now ≡ s x = c.get.ensures.value ∙ c.in_ok-there.ensures.value p commands holds c.if-not-there.false in
    let bytes : c.bytes.result.now ≡ bytes_at lo s x = c.bytes.ensures s (sym value) in
    ap (λ (l : List Command). (let r : Result (List Command) MapErr = Ok l in r)) c.both_stored.ensures
    ∙ ap (stored_at lo hi s x) (c.in-Some.ensures ∙ (λ k. taken_on c.args.level (c.root-root.ensures k) x (bytes k))) ∙ sym (taken_is lo hi s c.args.level x)

pub returns-in-None-clause-answer : goal.returns-in-None-clause-answer
returns-in-None-clause-answer g c = λ p commands holds below done.
    let way = c.args.way.now in
    let lo = way.map.now.lo in
    let hi = way.map.now.hi in
    let s = state_of p commands in
    let x : ℕ = c.args.child in
    let value : c.get.result.now ≡ s x = c.get.ensures.value ∙ c.in_ok-there.ensures.value p commands holds c.if-not-there.false in
    let bytes : c.bytes.result.now ≡ bytes_at lo s x = c.bytes.ensures s (sym value) in
    ap (stored_at lo hi s x) (c.in-None.ensures ∙ (λ k. taken_on c.args.level (c.root-root.ensures k) x (bytes k))) ∙ sym (taken_is lo hi s c.args.level x)
