use Rattle.std.proofs.Common.{ap, refl}
use Rattle.embed_c.specs.declared.answer.Answer.{Answer}
use Rattle.embed_c.proofs.Untaken.{untaken}
use Rattle.embed_c.proofs.session.Session.force.Goals as goal

pub returns : goal.returns
returns c = record {
  made = c.force-made.result;
  store = (record { in_group = c.force-made.ensures.in_group; alone = c.force-made.ensures.alone; broken = c.force-made.ensures.broken }, c.put_count.ensures);
  number = ap (λ (a : Answer). a.number) c.work_answer-answer.ensures;
  detail = ap (λ (a : Answer). a.detail) c.work_answer-answer.ensures;
  untaken = untaken c.force-made.ensures.time;
  taken = refl;
  pairs = refl;
  snapshot = refl;
  staging = refl;
}
