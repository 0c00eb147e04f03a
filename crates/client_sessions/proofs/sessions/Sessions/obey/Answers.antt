use Rattle.std.proofs.Common.{ℕ, List, [], false, true, sym, subst}
use Rattle.std.proofs.lemmas.Result.{IfOk-from_err}
use Rattle.named_words.specs.Forms.{texts}
use Rattle.client_sessions.specs.Calls.{IsDone}
use Rattle.client_sessions.specs.Events.{CommandDone}
use Rattle.client_sessions.specs.Laws.{keeps_same}
use Rattle.client_sessions.specs.Sessions.{Words}
use Rattle.client_sessions.specs.declared.session_limits.SessionLimits.{SessionLimits}
use Rattle.client_sessions.proofs.Commands.{obeyed, obeyed_none}
use Rattle.client_sessions.proofs.Partings.{leaving_at}
use Rattle.client_sessions.proofs.Slots.{more_large, same_large}
use Rattle.client_sessions.proofs.sessions.Sessions.obey.Goals as goal

pub returns-then-index-clause-large : goal.returns-then-index-clause-large
returns-then-index-clause-large g c = same_large c.args.self.now

pub returns-then-index-clause-done : goal.returns-then-index-clause-done
returns-then-index-clause-done g c origin was holds =
    let old = c.args.self.now in
    let at : ℕ = c.args.client in
    let words : Words = texts c.args.words.now in
    let it = obeyed_none was.sizes old.limits at words was old c.args.out.now.items (leaving_at old.sessions.items at c.index.result.now true c.requires c.index.ensures c.if-index.true) in
    record { next = was; counts = g.met.S.NamedStore.lawful.counts c.args.store.now origin was holds; stands = holds; is = (keeps_same was, it) }

pub returns-in_err-open-clause-done : goal.returns-in_err-open-clause-done
returns-in_err-open-clause-done g c origin was holds =
    record { next = was; counts = g.met.S.NamedStore.lawful.counts c.args.store.now origin was holds; stands = IfOk-from_err c.from_residual.result _ c.from_residual.ensures.0; is = (keeps_same was, IfOk-from_err c.from_residual.result _ c.from_residual.ensures.0) }

pub returns-in_err-command-clause-done : goal.returns-in_err-command-clause-done
returns-in_err-command-clause-done g c origin was holds =
    let one = c.in_err-command.ensures.done origin was holds in
    record { next = one.next; counts = one.counts; stands = IfOk-from_err c.from_residual-in_err-command.result _ c.from_residual-in_err-command.ensures.0; is = (one.is.0, IfOk-from_err c.from_residual-in_err-command.result _ c.from_residual-in_err-command.ensures.0) }

pub returns-in_err-push_frames-clause-done : goal.returns-in_err-push_frames-clause-done
returns-in_err-push_frames-clause-done g c origin was holds =
    let one = c.in_ok-command.ensures.done origin was holds in
    record { next = one.next; counts = one.counts; stands = IfOk-from_err c.from_residual-in_err-push_frames.result _ c.from_residual-in_err-push_frames.ensures.0; is = (one.is.0, IfOk-from_err c.from_residual-in_err-push_frames.result _ c.from_residual-in_err-push_frames.ensures.0) }

pub returns-in_err-farewell-clause-done : goal.returns-in_err-farewell-clause-done
returns-in_err-farewell-clause-done g c origin was holds =
    let one = c.in_ok-command.ensures.done origin was holds in
    record { next = one.next; counts = one.counts; stands = IfOk-from_err c.from_residual-in_err-farewell.result _ c.from_residual-in_err-farewell.ensures.0; is = (one.is.0, IfOk-from_err c.from_residual-in_err-farewell.result _ c.from_residual-in_err-farewell.ensures.0) }

pub returns-clause-large : goal.returns-clause-large
returns-clause-large g c =
    more_large c.args.self.now c.open.new.self c.command.new.self (record { limits = c.in_ok-open.ensures.limits; count = c.in_ok-open.ensures.count }) c.in_ok-command.ensures.large

pub returns-clause-done : goal.returns-clause-done
returns-clause-done g c origin was holds =
    let one = c.in_ok-command.ensures.done origin was holds in
    let b = one.next in
    let old = c.args.self.now in
    let mid = c.open.new.self in
    let new = c.command.new.self in
    let at : ℕ = c.args.client in
    let words : Words = texts c.args.words.now in
    let said : List ℕ = c.deref.result.now in
    let it = subst (λ (l : SessionLimits). IsDone (CommandDone was.sizes l at words) was b mid new [] said) c.in_ok-open.ensures.limits
    (subst (λ (l : List ℕ). IsDone (CommandDone was.sizes mid.limits at words) was b mid new l said) c.new-said.ensures.items
    (subst (λ (l : List ℕ). IsDone (CommandDone was.sizes mid.limits at words) was b mid new c.new-said.result.items l) (sym c.deref.ensures.value) one.is.1)) in
    let answered = obeyed was.sizes old.limits at words was b old mid new c.args.out.now.items c.push_frames.new.into.items c.farewell.new.out.items said
    (leaving_at old.sessions.items at c.index.result.now false c.requires c.index.ensures c.if-index.false) c.in_ok-open.ensures.is
    (record { limits = c.in_ok-open.ensures.limits; count = c.in_ok-open.ensures.count }) it c.in_ok-push_frames.ensures.ok c.in_ok-farewell.ensures in
    record { next = b; counts = one.counts; stands = one.stands; is = (one.is.0, answered) }
