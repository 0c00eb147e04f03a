use Rattle.std.proofs.Common.{◌≡◌, ◌<◌, Ok, Result, ℕ, ap, ◌∙◌, sym, subst}
use Rattle.page_map.specs.Map.{bytes_at}
use Rattle.page_ops.specs.Reading.{level_in}
use Rattle.range_calls.specs.JoinLaws.{object_is_there}
use Rattle.range_calls.specs.ReadLaws.{answers_passed, passed}
use Rattle.range_calls.specs.Store.{state_of}
use Rattle.map_client.specs.Answers.{MapErr}
use Rattle.map_client.proofs.checking.root_told.Goals as goal

pub returns-in_err-there-clause-answer : goal.returns-in_err-there-clause-answer
returns-in_err-there-clause-answer g c = λ p commands holds below.
    answers_passed c.from_residual.result c.in_err-there.field-0.0 (Ok (level_in (bytes_at c.args.map.now.lo (state_of p commands) c.args.map.now.lo)))
    (passed c.from_residual.result c.in_err-there.field-0.0 c.from_residual.ensures.1) (λ done. absurd (c.in_err-there.ensures.failed done))

pub returns-then-not-there-clause-answer : goal.returns-then-not-there-clause-answer
returns-then-not-there-clause-answer g c = λ p commands holds below done.
    absurd (object_is_there _ p c.root-root.result (g.S.Store.view.numbers p (g.M.Machine.disk c.args.machine.now) c.args.store.now commands holds) (subst (λ (x : ℕ). x < p.objects) (sym c.root-root.ensures) below)
    (sym c.if-not-there.true ∙ c.in_ok-there.ensures.there))

-- what the root's bytes tell
pub returns-clause-answer : goal.returns-clause-answer
returns-clause-answer g c = λ p commands holds below done.
    let lo = c.args.map.now.lo in
    let value : c.get.result.now ≡ state_of p commands c.root-root.result = c.get.ensures.value ∙ c.in_ok-there.ensures.value p commands holds c.if-not-there.false in
    let bytes : c.bytes.result.now ≡ bytes_at lo (state_of p commands) lo = c.bytes.ensures (state_of p commands) (sym value) ∙ ap (bytes_at lo (state_of p commands)) c.root-root.ensures in
    ap (λ (n : ℕ). (let r : Result ℕ MapErr = Ok n in r)) (c.level_of.ensures ∙ ap level_in bytes)
