use Rattle.std.proofs.Common.{ap, refl}
use Rattle.embed_c.specs.declared.answer.Answer.{Answer}
use Rattle.embed_c.proofs.session.Session.refuse_backup.Goals as goal

pub returns : goal.returns
returns c = record {
  number = ap (λ (a : Answer). a.number) c.alone-answer.ensures;
  detail = ap (λ (a : Answer). a.detail) c.alone-answer.ensures;
  store = refl;
  taken = refl;
  pairs = refl;
  snapshot = refl;
  staging = refl;
}
