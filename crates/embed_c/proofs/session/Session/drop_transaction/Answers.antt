use Rattle.std.proofs.Common.{◌∙◌, ap, refl, sym, inl, inr}
use Rattle.embed_c.specs.declared.answer.Answer.{Answer}
use Rattle.embed_c.proofs.OnHandles.{none_where}
use Rattle.embed_c.proofs.session.Session.drop_transaction.Goals as goal

pub returns-then-not-in_transaction : goal.returns-then-not-in_transaction
returns-then-not-in_transaction c = inr (none_where c.args.self.now.staging (sym c.in_transaction.ensures ∙ c.if-not-in_transaction.true), c.refuse.ensures)

pub returns : goal.returns
returns c = inl (record {
  there = sym c.in_transaction.ensures ∙ c.if-not-in_transaction.false;
  staging = refl;
  number = refl;
  detail = ap (λ (a : Answer). a.detail) c.done.ensures;
  store = refl;
  taken = refl;
  pairs = refl;
  snapshot = refl;
})
