use Rattle.std.proofs.Common.{ap, refl}
use Rattle.embed_c.specs.declared.answer.Answer.{Answer}
use Rattle.embed_c.proofs.Untaken.{untaken}
use Rattle.embed_c.proofs.session.Session.trim.Goals as goal

pub returns : goal.returns
returns c = record {
  made = c.trim.result;
  store = record { in_group = c.trim.ensures.in_group; in_backup = c.trim.ensures.in_backup; alone = c.trim.ensures.alone; broken = c.trim.ensures.broken };
  number = ap (λ (a : Answer). a.number) c.work_answer-answer.ensures;
  detail = ap (λ (a : Answer). a.detail) c.work_answer-answer.ensures;
  untaken = untaken c.trim.ensures.time;
  taken = refl;
  pairs = refl;
  snapshot = refl;
  staging = refl;
}
