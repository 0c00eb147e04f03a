use Rattle.std.proofs.Common.{◌∙◌, subst, sym}
use Rattle.std.specs.Prelude.{IsSome}
use Rattle.embed_c.specs.Handles.{session_of}
use Rattle.embed_c.specs.Staging.{Commits}
use Rattle.embed_c.specs.declared.session.Session.{Session}
use Rattle.embed_c.proofs.Transacting.{cut_off, was_closed}
use Rattle.embed_c.proofs.staging.redo_core_txn_commit.Goals as goal

pub returns-in_default : goal.returns-in_default
returns-in_default c = was_closed (session_of c.args.redo.now) (session_of c.take.new.self) c.in_default.ensures.none c.in_default.ensures.left

pub returns-in-Some-group-2 : goal.returns-in-Some-group-2
returns-in-Some-group-2 c = cut_off c.in-Some.ensures.some c.deref_mut-2.ensures.value c.abort.result (session_of c.put_again.new.redo) c.into_inner.result c.commit-answer.result c.put_again.result
    (subst (λ (x : Session). Commits c.deref_mut-2.result.now x c.commit-answer.result) (sym c.into_inner.ensures) c.commit-answer.ensures)
    (subst (λ (x : Session). IsSome x.store.engine.group) (c.deref-2.ensures ∙ sym c.into_inner.ensures) c.in-Some-group-2.ensures.some.1)
    c.abort.ensures.some c.abort.ensures.none c.put_again.ensures
