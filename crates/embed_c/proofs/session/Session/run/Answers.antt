use Rattle.std.proofs.Common.{ap, refl}
use Rattle.embed_c.specs.declared.answer.Answer.{Answer}
use Rattle.embed_c.proofs.Untaken.{untaken}
use Rattle.embed_c.proofs.session.Session.run.Goals as goal

pub returns : goal.returns
returns c = record {
  made = c.exec.result;
  store = record { run = c.exec.ensures.run; calls = c.exec.ensures.calls; broken = c.exec.ensures.broken };
  number = ap (λ (a : Answer). a.number) c.exec_answer-answer.ensures;
  detail = ap (λ (a : Answer). a.detail) c.exec_answer-answer.ensures;
  untaken = untaken c.exec.ensures.time;
  taken = refl;
  pairs = refl;
  snapshot = refl;
  staging = refl;
}
