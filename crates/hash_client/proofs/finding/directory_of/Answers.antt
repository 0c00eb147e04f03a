use Rattle.std.proofs.Common.{ap, ◌∙◌, None, Err, Option, Result}
use Rattle.hash_ops.specs.declared.directory.Directory.{Directory}
use Rattle.hash_file.specs.declared.refusal.HashRefusal.{HashRefusal}
use Rattle.range_calls.specs.ReadLaws.{answers_passed, passed}
use Rattle.range_calls.specs.Store.{state_of}
use Rattle.range_calls.specs.declared.call_err.CallErr.{CallErr}
use Rattle.hash_client.specs.Finding.{directory_answer}
use Rattle.hash_client.proofs.FindLemmas.{directory_read, none_begun}
use Rattle.hash_client.proofs.finding.directory_of.Goals as goal

pub returns-in_err-see_there-clause-answer : goal.returns-in_err-see_there-clause-answer
returns-in_err-see_there-clause-answer g c = λ p commands holds.
    answers_passed c.from_residual.result c.in_err-see_there.field-0.0 (directory_answer c.args.object (state_of p commands c.args.object))
    (passed c.from_residual.result c.in_err-see_there.field-0.0 c.from_residual.ensures.1) (λ done. absurd (c.in_err-see_there.ensures.failed done))

pub returns-then-is_empty-clause-answer : goal.returns-then-is_empty-clause-answer
returns-then-is_empty-clause-answer g c = λ p commands holds done.
    none_begun c.args.object c.get-value.result.now c.if-is_empty.ensures
    ∙ ap (directory_answer c.args.object) (c.get-value.ensures.value ∙ c.in_ok-see_there.ensures.value p commands holds)

pub returns-in-Some-clause-answer : goal.returns-in-Some-clause-answer
returns-in-Some-clause-answer g c = λ p commands holds done.
    directory_read c.args.object c.get-value.result.now _ c.if-is_empty.ensures c.in-Some.ensures.value
    ∙ ap (directory_answer c.args.object) (c.get-value.ensures.value ∙ c.in_ok-see_there.ensures.value p commands holds)

pub returns-in-None-clause-answer : goal.returns-in-None-clause-answer
returns-in-None-clause-answer g c = λ p commands holds done.
    ap (λ (e : CallErr HashRefusal). (let r : Result (Option Directory) (CallErr HashRefusal) = Err e in r)) c.bad.ensures
    ∙ directory_read c.args.object c.get-value.result.now None c.if-is_empty.ensures c.in-None.ensures.value
    ∙ ap (directory_answer c.args.object) (c.get-value.ensures.value ∙ c.in_ok-see_there.ensures.value p commands holds)
