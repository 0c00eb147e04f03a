use Rattle.std.proofs.Common.{ap, refl}
use Rattle.embed_c.specs.declared.answer.Answer.{Answer}
use Rattle.embed_c.proofs.Untaken.{untaken}
use Rattle.embed_c.proofs.session.Session.end.Goals as goal

pub returns : goal.returns
returns c = record {
  made = c.end.result;
  store = record { none = c.end.ensures.none; some = c.end.ensures.some; broken = c.end.ensures.broken };
  number = ap (λ (a : Answer). a.number) c.end_answer-answer.ensures;
  detail = ap (λ (a : Answer). a.detail) c.end_answer-answer.ensures;
  untaken = untaken c.end.ensures.time;
  taken = refl;
  pairs = refl;
  snapshot = refl;
  staging = refl;
}
