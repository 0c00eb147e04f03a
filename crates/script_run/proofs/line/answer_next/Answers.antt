use Rattle.std.proofs.Common.{inl, inr, refl, subst, sym, List, ℕ}
use Rattle.script_run.specs.Finding.{IsLineOf}
use Rattle.script_run.proofs.AnsweringLemmas.{answers_for, unasked}
use Rattle.script_run.proofs.line.answer_next.Goals as goal

pub take-requires : goal.take-requires
take-requires g c = record { few = c.requires.few; asks = c.in_ok-asked.ensures.asks }

pub returns-in_err-asked-clause-answered : goal.returns-in_err-asked-clause-answered
returns-in_err-asked-clause-answered g c = unasked c.from_residual.result c.from_residual.ensures.0 c.from_residual.ensures.1 (g.met.M.Machine.lawful c.args.machine.now)

pub returns-in_err-asked-clause-some : goal.returns-in_err-asked-clause-some
returns-in_err-asked-clause-some g c = λ some. (c.args.bytes.now, unasked c.from_residual.result c.from_residual.ensures.0 c.from_residual.ensures.1 (g.met.M.Machine.lawful c.args.machine.now))

pub returns-in_err-asked-clause-noted : goal.returns-in_err-asked-clause-noted
returns-in_err-asked-clause-noted g c = inr (c.from_residual.ensures.0, refl)

pub returns-clause-answered : goal.returns-clause-answered
returns-clause-answered g c = answers_for (λ line is. c.in_ok-asked.ensures.asks line is) c.answer_asked.ensures

pub returns-clause-some : goal.returns-clause-some
returns-clause-some g c = λ some.
    let (line, asks) = c.in_ok-asked.ensures.some some in
    (line, answers_for (λ other is. subst (λ (l : List ℕ). IsLineOf c.in_ok-asked.asked l) (sym is) asks) c.answer_asked.ensures)

pub returns-clause-noted : goal.returns-clause-noted
returns-clause-noted g c = inl c.take.ensures
