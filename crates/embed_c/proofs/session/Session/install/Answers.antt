use Rattle.std.proofs.Common.{ap, refl}
use Rattle.embed_c.specs.declared.answer.Answer.{Answer}
use Rattle.embed_c.proofs.Untaken.{untaken}
use Rattle.embed_c.proofs.session.Session.install.Goals as goal

pub returns : goal.returns
returns c = record {
  made = c.install-made.result;
  store = (record { in_group = c.install-made.ensures.in_group; alone = c.install-made.ensures.alone; broken = c.install-made.ensures.broken }, c.put_install.ensures);
  number = ap (λ (a : Answer). a.number) c.work_answer-answer.ensures;
  detail = ap (λ (a : Answer). a.detail) c.work_answer-answer.ensures;
  untaken = untaken c.install-made.ensures.time;
  taken = refl;
  pairs = refl;
  snapshot = refl;
  staging = refl;
}
