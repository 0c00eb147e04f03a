use Rattle.std.proofs.Common.{◌∙◌, ap, refl, sym, inl, inr}
use Rattle.embed_c.specs.Answers.{alone, telling}
use Rattle.embed_c.specs.declared.answer.Answer.{Answer}
use Rattle.embed_c.proofs.OnHandles.{none_where}
use Rattle.embed_c.proofs.session.Session.begin_transaction.Goals as goal

pub returns-then-in_transaction : goal.returns-then-in_transaction
returns-then-in_transaction c = inr (alone 23, inl (sym c.in_transaction.ensures ∙ c.if-in_transaction.true, refl), c.refuse.ensures)

pub returns-in-Some : goal.returns-in-Some
returns-in-Some c = inr (telling 18 c.in-Some.commands 0 0, inr (inl (c.in-Some.commands, c.in-Some.ensures.some.2, refl)), c.refuse_in_group.ensures)

pub returns-in-Ok : goal.returns-in-Ok
returns-in-Ok c = inl (record {
  started = c.in-Ok.transaction;
  empty = c.in-Ok.ensures.none;
  staged = c.in-Ok.ensures.staged;
  staging = refl;
  alone = (none_where c.args.self.now.staging (sym c.in_transaction.ensures ∙ c.if-in_transaction.false), c.in_default.ensures.none);
  number = refl;
  detail = ap (λ (a : Answer). a.detail) c.done.ensures;
  store = refl;
  taken = refl;
  pairs = refl;
  snapshot = refl;
})

pub returns-in-Err : goal.returns-in-Err
returns-in-Err c = inr (alone 8, inr (inr refl), c.refuse-in-Err.ensures)
