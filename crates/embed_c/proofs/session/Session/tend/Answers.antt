use Rattle.std.proofs.Common.{ap, refl}
use Rattle.embed_c.specs.declared.answer.Answer.{Answer}
use Rattle.embed_c.proofs.Untaken.{untaken}
use Rattle.embed_c.proofs.session.Session.tend.Goals as goal

pub returns : goal.returns
returns c = record {
  made = c.tend-made.result;
  store = (record { in_group = c.tend-made.ensures.in_group; alone = c.tend-made.ensures.alone; broken = c.tend-made.ensures.broken }, c.put_count.ensures);
  number = ap (λ (a : Answer). a.number) c.work_answer-answer.ensures;
  detail = ap (λ (a : Answer). a.detail) c.work_answer-answer.ensures;
  untaken = untaken c.tend-made.ensures.time;
  taken = refl;
  pairs = refl;
  snapshot = refl;
  staging = refl;
}
