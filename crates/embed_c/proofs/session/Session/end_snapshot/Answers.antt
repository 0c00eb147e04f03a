use Rattle.std.proofs.Common.{◌∙◌, ap, refl, sym, inl, inr}
use Rattle.embed_c.specs.declared.answer.Answer.{Answer}
use Rattle.embed_c.proofs.OnHandles.{none_where}
use Rattle.embed_c.proofs.session.Session.end_snapshot.Goals as goal

pub returns-then-not-has_snapshot : goal.returns-then-not-has_snapshot
returns-then-not-has_snapshot c = inr (none_where c.args.self.now.snapshot (sym c.has_snapshot.ensures ∙ c.if-not-has_snapshot.true), c.refuse.ensures)

pub returns : goal.returns
returns c = inl (record {
  there = sym c.has_snapshot.ensures ∙ c.if-not-has_snapshot.false;
  snapshot = refl;
  number = refl;
  detail = ap (λ (a : Answer). a.detail) c.done.ensures;
  store = refl;
  taken = refl;
  pairs = refl;
  staging = refl;
})
