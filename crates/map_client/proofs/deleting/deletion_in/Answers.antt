use Rattle.std.proofs.Common.{◌≡◌, ap, ◌∙◌, sym, ℕ, Ok, Option, Result, List}
use Rattle.page_ops.specs.declared.page_op.PageOp.{PageOp}
use Rattle.page_map.specs.Map.{bytes_at}
use Rattle.range_calls.specs.JoinLaws.{object_is_there}
use Rattle.range_calls.specs.ReadLaws.{answers_passed, passed}
use Rattle.range_calls.specs.Store.{Command, state_of}
use Rattle.map_client.specs.Answers.{MapErr}
use Rattle.map_client.specs.Changing.{delete_of, found}
use Rattle.map_client.specs.Reading.{delete_on}
use Rattle.map_client.proofs.deleting.deletion_in.Goals as goal

pub returns-in_err-there-clause-answer : goal.returns-in_err-there-clause-answer
returns-in_err-there-clause-answer g c = λ p commands holds below.
    answers_passed c.from_residual.result c.in_err-there.field-0.0 (found (delete_of (delete_on c.args.leaf (bytes_at c.args.map.now.lo (state_of p commands) c.args.leaf) c.args.key.now)))
    (passed c.from_residual.result c.in_err-there.field-0.0 c.from_residual.ensures.1) (λ done. absurd (c.in_err-there.ensures.failed done))

pub returns-then-not-there-clause-answer : goal.returns-then-not-there-clause-answer
returns-then-not-there-clause-answer g c = λ p commands holds below done.
    absurd (object_is_there _ p c.args.leaf (g.S.Store.view.numbers p (g.M.Machine.disk c.args.machine.now) c.args.store.now commands holds) below (sym c.if-not-there.true ∙ c.in_ok-there.ensures.there))

-- what the leaf's bytes say
pub returns-in-Ok-Some-clause-answer : goal.returns-in-Ok-Some-clause-answer
returns-in-Ok-Some-clause-answer g c = λ p commands holds below done.
    let value : c.get.result.now ≡ state_of p commands c.args.leaf = c.get.ensures.value ∙ c.in_ok-there.ensures.value p commands holds c.if-not-there.false in
    let bytes : c.bytes.result.now ≡ bytes_at c.args.map.now.lo (state_of p commands) c.args.leaf = c.bytes.ensures (state_of p commands) (sym value) in
    ap (λ (o : Command). (let r : Result Command MapErr = Ok o in r)) c.page_op.ensures ∙ ap (λ (r : Result (Option PageOp) ℕ). found (delete_of r)) (ap (λ (o : Option PageOp). (let r : Result (Option PageOp) ℕ = Ok o in r)) (sym c.in-Ok-Some.field-0-is) ∙ c.in-Ok-Some.ensures ∙ ap (λ (l : List ℕ). delete_on c.args.leaf l c.args.key.now) bytes)

pub returns-in-Ok-None-clause-answer : goal.returns-in-Ok-None-clause-answer
returns-in-Ok-None-clause-answer g c = λ p commands holds below done.
    let value : c.get.result.now ≡ state_of p commands c.args.leaf = c.get.ensures.value ∙ c.in_ok-there.ensures.value p commands holds c.if-not-there.false in
    let bytes : c.bytes.result.now ≡ bytes_at c.args.map.now.lo (state_of p commands) c.args.leaf = c.bytes.ensures (state_of p commands) (sym value) in
    ap (λ (r : Result (Option PageOp) ℕ). found (delete_of r)) (ap (λ (o : Option PageOp). (let r : Result (Option PageOp) ℕ = Ok o in r)) (sym c.in-Ok-None.field-0-is) ∙ c.in-Ok-None.ensures ∙ ap (λ (l : List ℕ). delete_on c.args.leaf l c.args.key.now) bytes)

pub returns-in-Err-clause-answer : goal.returns-in-Err-clause-answer
returns-in-Err-clause-answer g c = λ p commands holds below done.
    let value : c.get.result.now ≡ state_of p commands c.args.leaf = c.get.ensures.value ∙ c.in_ok-there.ensures.value p commands holds c.if-not-there.false in
    let bytes : c.bytes.result.now ≡ bytes_at c.args.map.now.lo (state_of p commands) c.args.leaf = c.bytes.ensures (state_of p commands) (sym value) in
    ap (λ (r : Result (Option PageOp) ℕ). found (delete_of r)) (c.in-Err.ensures ∙ ap (λ (l : List ℕ). delete_on c.args.leaf l c.args.key.now) bytes)
