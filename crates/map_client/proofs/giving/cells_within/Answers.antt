use Rattle.std.proofs.Common.{◌≡◌, ap, ◌∙◌, sym, ℕ, option_map}
use Rattle.page_map.specs.Deletes.{front_at}
use Rattle.page_map.specs.Map.{bytes_at}
use Rattle.range_calls.specs.JoinLaws.{object_is_there}
use Rattle.range_calls.specs.ReadLaws.{answers_passed, passed}
use Rattle.range_calls.specs.Store.{state_of}
use Rattle.map_client.specs.Answers.{or_bad}
use Rattle.map_client.specs.Tidying.{front_on}
use Rattle.map_client.proofs.giving.cells_within.Goals as goal

pub returns-in_err-there-clause-answer : goal.returns-in_err-there-clause-answer
returns-in_err-there-clause-answer g c = λ p commands holds below.
    let way = c.args.way.now in
    let x : ℕ = c.args.leaf.now.object in
    let e = c.in_err-there.field-0.0 in
    answers_passed c.from_residual.result e (or_bad x (front_at way.map.now.lo way.map.now.hi (state_of p commands) (option_map (λ v. v.items) c.args.leaf.now.to) x))
    (passed c.from_residual.result e c.from_residual.ensures.1) (λ done. absurd (c.in_err-there.ensures.failed done))

pub returns-then-not-there-clause-answer : goal.returns-then-not-there-clause-answer
returns-then-not-there-clause-answer g c = λ p commands holds below done.
    absurd (object_is_there _ p c.args.leaf.now.object (g.S.Store.view.numbers p (g.M.Machine.disk c.args.machine.now) c.args.store.now commands holds) below (sym c.if-not-there.true ∙ c.in_ok-there.ensures.there))

-- what the leaf's bytes say
pub returns-in-Some-clause-answer : goal.returns-in-Some-clause-answer
returns-in-Some-clause-answer g c = λ p commands holds below done.
    let lo = c.args.way.now.map.now.lo in
    let x : ℕ = c.args.leaf.now.object in
    let value : c.get.result.now ≡ state_of p commands x = c.get.ensures.value ∙ c.in_ok-there.ensures.value p commands holds c.if-not-there.false in
    let bytes : c.bytes.result.now ≡ bytes_at lo (state_of p commands) x = c.bytes.ensures (state_of p commands) (sym value) in
    ap (or_bad x) (c.in-Some.ensures ∙ (λ k. front_on (bytes k) (c.end_bytes.ensures k)))

pub returns-in-None-clause-answer : goal.returns-in-None-clause-answer
returns-in-None-clause-answer g c = λ p commands holds below done.
    let lo = c.args.way.now.map.now.lo in
    let x : ℕ = c.args.leaf.now.object in
    let value : c.get.result.now ≡ state_of p commands x = c.get.ensures.value ∙ c.in_ok-there.ensures.value p commands holds c.if-not-there.false in
    let bytes : c.bytes.result.now ≡ bytes_at lo (state_of p commands) x = c.bytes.ensures (state_of p commands) (sym value) in
    ap (or_bad x) (c.in-None.ensures ∙ (λ k. front_on (bytes k) (c.end_bytes.ensures k)))
