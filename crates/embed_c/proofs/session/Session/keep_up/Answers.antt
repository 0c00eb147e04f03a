use Rattle.std.proofs.Common.{ap, refl}
use Rattle.embed_c.specs.declared.answer.Answer.{Answer}
use Rattle.embed_c.proofs.Untaken.{untaken}
use Rattle.embed_c.proofs.session.Session.keep_up.Goals as goal

pub returns : goal.returns
returns c = record {
  made = c.keep_up.result;
  store = record { in_group = c.keep_up.ensures.in_group; alone = c.keep_up.ensures.alone; broken = c.keep_up.ensures.broken };
  number = ap (λ (a : Answer). a.number) c.read_answer-answer.ensures;
  detail = ap (λ (a : Answer). a.detail) c.read_answer-answer.ensures;
  untaken = untaken c.keep_up.ensures.time;
  taken = refl;
  pairs = refl;
  snapshot = refl;
  staging = refl;
}
