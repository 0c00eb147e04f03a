use Rattle.std.proofs.Common.{◌≡◌, ◌<◌, ap, ◌∙◌, sym, subst, ℕ, None}
use Rattle.page_map.specs.Map.{bytes_at}
use Rattle.range_calls.specs.JoinLaws.{object_is_there}
use Rattle.range_calls.specs.ReadLaws.{answers_passed, passed}
use Rattle.range_calls.specs.Store.{state_of}
use Rattle.map_client.specs.Answers.{or_bad}
use Rattle.map_client.specs.Tidying.{only_child_of}
use Rattle.map_client.proofs.giving.child_of_root.Goals as goal

pub returns-in_err-there-clause-answer : goal.returns-in_err-there-clause-answer
returns-in_err-there-clause-answer g c = λ p commands holds below.
    let lo = c.args.way.now.map.now.lo in
    answers_passed c.from_residual.result c.in_err-there.field-0.0 (or_bad lo (only_child_of lo c.args.way.now.map.now.hi (bytes_at lo (state_of p commands) lo)))
    (passed c.from_residual.result c.in_err-there.field-0.0 c.from_residual.ensures.1) (λ done. absurd (c.in_err-there.ensures.failed done))

pub returns-then-not-there-clause-answer : goal.returns-then-not-there-clause-answer
returns-then-not-there-clause-answer g c = λ p commands holds below done.
    absurd (object_is_there _ p c.root-object.result (g.S.Store.view.numbers p (g.M.Machine.disk c.args.machine.now) c.args.store.now commands holds) (subst (λ (x : ℕ). x < p.objects) (sym c.root-object.ensures) below) (sym c.if-not-there.true ∙ c.in_ok-there.ensures.there))

-- what the root's bytes say
pub returns-in-Some-clause-answer : goal.returns-in-Some-clause-answer
returns-in-Some-clause-answer g c = λ p commands holds below done.
    let lo = c.args.way.now.map.now.lo in
    let hi = c.args.way.now.map.now.hi in
    let s = state_of p commands in
    let value : c.get.result.now ≡ s c.root-object.result = c.get.ensures.value ∙ c.in_ok-there.ensures.value p commands holds c.if-not-there.false in
    let bytes : c.bytes.result.now ≡ bytes_at lo s lo = c.bytes.ensures s (sym value) ∙ ap (bytes_at lo s) c.root-object.ensures in
    ap (or_bad lo) (c.in-Some.ensures ∙ ap (only_child_of lo hi) bytes)

pub returns-in-None-clause-answer : goal.returns-in-None-clause-answer
returns-in-None-clause-answer g c = λ p commands holds below done.
    let lo = c.args.way.now.map.now.lo in
    let hi = c.args.way.now.map.now.hi in
    let s = state_of p commands in
    let value : c.get.result.now ≡ s c.root-object.result = c.get.ensures.value ∙ c.in_ok-there.ensures.value p commands holds c.if-not-there.false in
    let bytes : c.bytes.result.now ≡ bytes_at lo s lo = c.bytes.ensures s (sym value) ∙ ap (bytes_at lo s) c.root-object.ensures in
    ap (λ x. or_bad x None) c.root-object.ensures ∙ ap (or_bad lo) (c.in-None.ensures ∙ ap (only_child_of lo hi) bytes)
