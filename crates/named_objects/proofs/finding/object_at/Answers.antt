use Rattle.std.proofs.Common.{sym, ap, ◌∙◌, subst, Option}
use Rattle.execution.specs.declared.exec_err.ExecErr.{ExecErr}
use Rattle.formats.specs.Objects.{bounds_of}
use Rattle.store_calls.specs.Making.{Reads}
use Rattle.range_calls.specs.ReadLaws.{answers_passed, makes_err, passed}
use Rattle.range_calls.specs.Store.{state_of}
use Rattle.named_objects.specs.Answers.{numbered, object_told}
use Rattle.named_objects.proofs.finding.object_at.Goals as goal

pub returns-in_err-number-clause-reads : goal.returns-in_err-number-clause-reads
returns-in_err-number-clause-reads g c =
    let e = c.in_err-number.field-0.0 in
    makes_err c.from_residual.result e (passed c.from_residual.result e c.from_residual.ensures.1) c.in_err-number.ensures.reads

pub returns-in_err-number-clause-answer : goal.returns-in_err-number-clause-answer
returns-in_err-number-clause-answer g c = λ p commands holds.
    let lo = c.args.map.now.lo in
    let e = c.in_err-number.field-0.0 in
    answers_passed c.from_residual.result e (object_told (bounds_of p) lo c.args.map.now.hi (state_of p commands) c.args.key.now)
    (passed c.from_residual.result e c.from_residual.ensures.1) (λ done. sym (ap (numbered lo) (c.in_err-number.ensures.refused p commands holds done)))

pub returns-clause-reads : goal.returns-clause-reads
returns-clause-reads g c =
    subst (λ (o : Option ExecErr). Reads g.S.Store.view (g.M.Machine.disk c.args.machine.now) (g.M.Machine.disk c.get.new.machine) c.args.store.now c.get.new.store o)
    (sym c.object_in.ensures.quiet) c.in_ok-number.ensures.reads

pub returns-clause-answer : goal.returns-clause-answer
returns-clause-answer g c = λ p commands holds done. c.object_in.ensures.value ∙ sym (ap (numbered c.args.map.now.lo) (c.in_ok-number.ensures.found p commands holds))
