use Rattle.std.proofs.Common.{ap}
use Rattle.embed_c.specs.declared.answer.Answer.{Answer}
use Rattle.embed_c.proofs.session.Session.program_run.Goals as goal

pub returns : goal.returns
returns c = let e = c.run_program-made.ensures in record {
  made = c.run_program-made.result;
  is = record { store = e.store; untaken = e.untaken; taken = e.taken; pairs = e.pairs; snapshot = e.snapshot };
  given = c.put_steps.ensures;
  number = ap (λ (a : Answer). a.number) c.exec_answer-answer.ensures;
  detail = ap (λ (a : Answer). a.detail) c.exec_answer-answer.ensures;
}
