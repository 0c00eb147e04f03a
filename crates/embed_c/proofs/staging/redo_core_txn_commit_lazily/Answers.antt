use Rattle.std.proofs.Common.{◌≡◌, ◌∙◌, Some, subst, sym}
use Rattle.store_engine.specs.Engine.{group_size}
use Rattle.embed_c.specs.Handles.{session_of}
use Rattle.embed_c.specs.Staging.{CommitsLazily}
use Rattle.embed_c.specs.declared.session.Session.{Session}
use Rattle.embed_c.proofs.Transacting.{cut_lazily, done_lazily, in_group_lazily, was_closed_lazily}
use Rattle.embed_c.proofs.staging.redo_core_txn_commit_lazily.Goals as goal

pub returns-in_default : goal.returns-in_default
returns-in_default c = was_closed_lazily (session_of c.args.redo.now) (session_of c.take.new.self) c.in_default.ensures.none c.in_default.ensures.left

pub returns-in-Some-group : goal.returns-in-Some-group
returns-in-Some-group c = in_group_lazily c.in-Some.ensures.some c.deref_mut.ensures.value (session_of c.put_back.new.self) c.in-Some-group.commands c.refuse_in_group-answer.result c.put_back.ensures
    (subst (λ (x : Session). group_size x.store.engine ≡ Some c.in-Some-group.commands) (c.deref.ensures ∙ sym c.deref_mut.ensures.value) c.in-Some-group.ensures.some.2) c.refuse_in_group-answer.ensures

pub returns-then-not-cut : goal.returns-then-not-cut
returns-then-not-cut c = done_lazily c.in-Some.ensures.some c.deref_mut-2.ensures.value (session_of c.put_back-then-not-cut.new.self) c.commit_lazily-answer.result.0 c.commit_lazily-answer.result.1 c.put_back-then-not-cut.ensures c.if-not-cut.true c.commit_lazily-answer.ensures

pub returns : goal.returns
returns c = cut_lazily c.in-Some.ensures.some c.deref_mut-2.ensures.value c.reopen.result (session_of c.put_again.new.redo) c.into_inner.result c.commit_lazily-answer.result.0 c.put_again.result c.commit_lazily-answer.result.1 c.if-not-cut.false
    (subst (λ (x : Session). CommitsLazily c.deref_mut-2.result.now x c.commit_lazily-answer.result.0 c.commit_lazily-answer.result.1) (sym c.into_inner.ensures) c.commit_lazily-answer.ensures)
    c.reopen.ensures.some c.reopen.ensures.none c.put_again.ensures
