use Rattle.std.proofs.Common.{sym, ap, ◌∙◌, subst, Err, Option, Result}
use Rattle.hash_ops.specs.declared.bucket.Bucket.{Bucket}
use Rattle.hash_file.specs.declared.refusal.HashRefusal.{HashRefusal}
use Rattle.execution.specs.declared.exec_err.ExecErr.{ExecErr}
use Rattle.range_calls.specs.Answers.{cause_of}
use Rattle.range_calls.specs.JoinLaws.{nothing_reads}
use Rattle.store_calls.specs.Making.{Reads}
use Rattle.range_calls.specs.ReadLaws.{answers_passed, passed}
use Rattle.range_calls.specs.Store.{state_of}
use Rattle.range_calls.specs.declared.call_err.CallErr.{CallErr}
use Rattle.hash_client.specs.Finding.{bucket_answer}
use Rattle.hash_client.proofs.FindLemmas.{bucket_none, bucket_outside, bucket_read}
use Rattle.hash_client.proofs.finding.bucket_of.Goals as goal

pub returns-then-not-is_inside-clause-reads : goal.returns-then-not-is_inside-clause-reads
returns-then-not-is_inside-clause-reads g c =
    subst (λ (e : CallErr HashRefusal). Reads g.S.Store.view (g.M.Machine.disk c.args.machine.now) (g.M.Machine.disk c.args.machine.now) c.args.store.now c.args.store.now (cause_of e)) (sym c.bad.ensures)
    (nothing_reads g.S.Store.view (g.M.Machine.disk c.args.machine.now) c.args.store.now c.nothing_is_made.ensures.front (c.nothing_is_made.ensures.calls c.requires.unbroken))

pub returns-then-not-is_inside-clause-answer : goal.returns-then-not-is_inside-clause-answer
returns-then-not-is_inside-clause-answer g c = λ p commands holds done.
    ap (λ (e : CallErr HashRefusal). (let r : Result Bucket (CallErr HashRefusal) = Err e in r)) c.bad.ensures
    ∙ bucket_outside c.args.file.now.lo c.args.file.now.hi c.args.depth c.args.object (state_of p commands c.args.object) c.if-not-is_inside.ensures

pub returns-in_err-see_there-clause-answer : goal.returns-in_err-see_there-clause-answer
returns-in_err-see_there-clause-answer g c = λ p commands holds.
    answers_passed c.from_residual.result c.in_err-see_there.field-0.0 (bucket_answer c.args.file.now.lo c.args.file.now.hi c.args.depth c.args.object (state_of p commands c.args.object))
    (passed c.from_residual.result c.in_err-see_there.field-0.0 c.from_residual.ensures.1) (λ done. absurd (c.in_err-see_there.ensures.failed done))

pub returns-in-Some-clause-reads : goal.returns-in-Some-clause-reads
returns-in-Some-clause-reads g c =
    subst (λ (e : Option ExecErr). Reads g.S.Store.view (g.M.Machine.disk c.args.machine.now) (g.M.Machine.disk c.see_there.new.machine) c.args.store.now c.see_there.new.store e) (sym c.where_shallow.ensures.found) c.in_ok-see_there.ensures.reads

pub returns-in-Some-clause-answer : goal.returns-in-Some-clause-answer
returns-in-Some-clause-answer g c = λ p commands holds done.
    c.where_shallow.ensures.answer
    ∙ bucket_read c.args.file.now.lo c.args.file.now.hi c.args.depth c.args.object c.get.result.now c.if-not-is_inside.ensures c.in-Some.bucket c.in-Some.ensures.value
    ∙ ap (bucket_answer c.args.file.now.lo c.args.file.now.hi c.args.depth c.args.object) (c.get.ensures.value ∙ c.in_ok-see_there.ensures.value p commands holds)

pub returns-in-None-clause-answer : goal.returns-in-None-clause-answer
returns-in-None-clause-answer g c = λ p commands holds done.
    ap (λ (e : CallErr HashRefusal). (let r : Result Bucket (CallErr HashRefusal) = Err e in r)) c.bad-in-None.ensures
    ∙ bucket_none c.args.file.now.lo c.args.file.now.hi c.args.depth c.args.object c.get.result.now c.if-not-is_inside.ensures c.in-None.ensures.value
    ∙ ap (bucket_answer c.args.file.now.lo c.args.file.now.hi c.args.depth c.args.object) (c.get.ensures.value ∙ c.in_ok-see_there.ensures.value p commands holds)
