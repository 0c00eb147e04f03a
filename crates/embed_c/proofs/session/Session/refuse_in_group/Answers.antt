use Rattle.std.proofs.Common.{ap, refl}
use Rattle.embed_c.specs.declared.answer.Answer.{Answer}
use Rattle.embed_c.proofs.session.Session.refuse_in_group.Goals as goal

pub returns : goal.returns
returns c = record { number = refl; detail = ap (λ (a : Answer). a.detail) c.telling.ensures; store = refl; taken = refl; pairs = refl; snapshot = refl; staging = refl }
