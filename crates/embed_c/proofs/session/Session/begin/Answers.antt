use Rattle.std.proofs.Common.{ap, refl}
use Rattle.embed_c.specs.declared.answer.Answer.{Answer}
use Rattle.embed_c.proofs.Untaken.{untaken}
use Rattle.embed_c.proofs.session.Session.begin.Goals as goal

pub returns : goal.returns
returns c = record {
  made = c.begin.result;
  store = record { in_group = c.begin.ensures.in_group; alone = c.begin.ensures.alone; broken = c.begin.ensures.broken };
  number = ap (λ (a : Answer). a.number) c.work_answer-answer.ensures;
  detail = ap (λ (a : Answer). a.detail) c.work_answer-answer.ensures;
  untaken = untaken c.begin.ensures.time;
  taken = refl;
  pairs = refl;
  snapshot = refl;
  staging = refl;
}
