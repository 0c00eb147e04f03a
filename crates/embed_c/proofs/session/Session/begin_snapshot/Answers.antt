use Rattle.std.proofs.Common.{◌∙◌, ap, refl, sym, inl, inr}
use Rattle.embed_c.specs.declared.answer.Answer.{Answer}
use Rattle.embed_c.proofs.OnHandles.{none_where}
use Rattle.embed_c.proofs.session.Session.begin_snapshot.Goals as goal

pub returns-then-has_snapshot : goal.returns-then-has_snapshot
returns-then-has_snapshot c = inr (inl (sym c.has_snapshot.ensures ∙ c.if-has_snapshot.true, c.refuse.ensures))

pub returns-in-Ok : goal.returns-in-Ok
returns-in-Ok c = inl (record {
  none = none_where c.args.self.now.snapshot (sym c.has_snapshot.ensures ∙ c.if-has_snapshot.false);
  begun = c.in-Ok.snapshot;
  stands = c.in-Ok.ensures.stands;
  of_state = c.in-Ok.ensures.begun;
  snapshot = refl;
  number = refl;
  detail = ap (λ (a : Answer). a.detail) c.done.ensures;
  store = refl;
  taken = refl;
  pairs = refl;
  staging = refl;
})

pub returns-in-Err : goal.returns-in-Err
returns-in-Err c = inr (inr c.refuse-in-Err.ensures)
