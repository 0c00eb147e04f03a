use Rattle.std.proofs.Common.{ap, refl}
use Rattle.embed_c.specs.declared.answer.Answer.{Answer}
use Rattle.embed_c.proofs.Untaken.{untaken}
use Rattle.embed_c.proofs.session.Session.read.Goals as goal

pub returns : goal.returns
returns c = record {
  made = c.get-made.result;
  store = (record { fetched = c.get-made.ensures.fetched; value = c.get-made.ensures.value; broken = c.get-made.ensures.broken }, c.put_length.ensures);
  number = ap (λ (a : Answer). a.number) c.value_answer-answer.ensures;
  detail = ap (λ (a : Answer). a.detail) c.value_answer-answer.ensures;
  untaken = untaken c.get-made.ensures.time;
  taken = refl;
  pairs = refl;
  snapshot = refl;
  staging = refl;
}
