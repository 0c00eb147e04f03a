use Rattle.std.proofs.Common.{◌≡◌, ◌∙◌, false, None, subst, sym}
use Rattle.std.specs.Prelude.{IsSome}
use Rattle.embed_c.specs.Handles.{session_of}
use Rattle.embed_c.specs.declared.session.Session.{Session}
use Rattle.embed_c.proofs.GivingUp.{gave_up, was_closed, without_group}
use Rattle.embed_c.proofs.giving_up.redo_core_abort.Goals as goal

pub returns-in_default : goal.returns-in_default
returns-in_default c = was_closed (session_of c.args.redo.now) (session_of c.take.new.self) c.in_default.ensures.none c.in_default.ensures.left

pub returns-in-None : goal.returns-in-None
returns-in-None c = without_group c.in-Some.ensures.some c.deref_mut.ensures.value c.put_back.ensures
    (subst (λ (s : Session). s.store.engine.broken ≡ false → s.store.engine.group ≡ None) (c.deref.ensures ∙ sym c.deref_mut.ensures.value) c.in-None.ensures.none) c.refuse_abort-answer.ensures

pub returns-in-Some-group : goal.returns-in-Some-group
returns-in-Some-group c = gave_up c.abort.result (session_of c.put_again.new.redo) c.put_again.result c.in-Some.ensures.some c.into_inner.ensures
    (subst (λ (s : Session). IsSome s.store.engine.group) (c.deref.ensures ∙ sym c.into_inner.ensures) c.in-Some-group.ensures.some.1) c.abort.ensures.some c.abort.ensures.none c.put_again.ensures
