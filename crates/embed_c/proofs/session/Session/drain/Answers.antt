use Rattle.std.proofs.Common.{ap, refl}
use Rattle.embed_c.specs.declared.answer.Answer.{Answer}
use Rattle.embed_c.proofs.Untaken.{untaken}
use Rattle.embed_c.proofs.session.Session.drain.Goals as goal

pub returns : goal.returns
returns c = record {
  made = c.drain.result;
  store = record { in_group = c.drain.ensures.in_group; alone = c.drain.ensures.alone; broken = c.drain.ensures.broken };
  number = ap (λ (a : Answer). a.number) c.work_answer-answer.ensures;
  detail = ap (λ (a : Answer). a.detail) c.work_answer-answer.ensures;
  untaken = untaken c.drain.ensures.time;
  taken = refl;
  pairs = refl;
  snapshot = refl;
  staging = refl;
}
