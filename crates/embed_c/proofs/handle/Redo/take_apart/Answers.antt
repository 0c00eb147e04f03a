use Rattle.std.proofs.Common.{◌≡◌, ◌∙◌, true, None, is_some, subst, sym}
use Rattle.embed_c.specs.Staging.{IsWithin}
use Rattle.embed_c.specs.declared.session.Session.{Session}
use Rattle.embed_c.proofs.OnHandles.{none_where, was_closed, was_open}
use Rattle.embed_c.proofs.handle.Redo.take_apart.Goals as goal

pub returns-in_default-clause-err : goal.returns-in_default-clause-err
returns-in_default-clause-err c = was_closed IsWithin c.in_default.ensures.none c.in_default.ensures.left

pub returns-then-in_transaction-clause-err : goal.returns-then-in_transaction-clause-err
returns-then-in_transaction-clause-err c = was_open IsWithin c.in-Some.ensures.some c.deref_mut.ensures.value c.put_back.ensures
    (subst (λ (s : Session). is_some s.staging ≡ true) (c.deref.ensures ∙ sym c.deref_mut.ensures.value) (sym c.in_transaction.ensures ∙ c.if-in_transaction.true), c.refuse-answer.ensures)

pub returns-clause-ok : goal.returns-clause-ok
returns-clause-ok c = (c.in-Some.ensures.some, subst (λ (s : Session). s.staging ≡ None) c.deref.ensures (none_where _ (sym c.in_transaction.ensures ∙ c.if-in_transaction.false)))
