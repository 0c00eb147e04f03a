use Rattle.std.proofs.Common.{◌∙◌, refl, subst, sym}
use Rattle.embed_c.specs.Opening.{IsFailure}
use Rattle.embed_c.proofs.Failures.{open_cause, open_fails}
use Rattle.embed_c.proofs.Fronts.{kept_by}
use Rattle.embed_c.proofs.Untaken.{untaken}
use Rattle.embed_c.proofs.session.Session.over.Goals as goal

pub returns-in-Ok-clause-ready : goal.returns-in-Ok-clause-ready
returns-in-Ok-clause-ready c = λ none.
    let ready = c.in-Ok.ensures.ready in
    let same = untaken {old = c.args.machine} {new = c.in-Ok.store.machine} c.in-Ok.ensures.opening.time in
    record { unbroken = ready.0; group = ready.1; copied = ready.2; attached = ready.4; first = same.first; untaken = same.calls ∙ none; taken = c.new.ensures; staging = refl }

pub returns-in-Ok-clause-holds : goal.returns-in-Ok-clause-holds
returns-in-Ok-clause-holds c = λ p commands opens. c.in-Ok.ensures.holds p commands opens

pub returns-in-Ok-clause-kept : goal.returns-in-Ok-clause-kept
returns-in-Ok-clause-kept c = λ p commands opens.
    kept_by c.args.machine c.in-Ok.store.machine p commands (c.fronts_are_what_is_left.ensures c.in-Ok.store.machine) (c.in-Ok.ensures.images tt p commands opens)

pub returns-clause-err : goal.returns-clause-err
returns-clause-err c = subst IsFailure (sym c.of_open.ensures) (open_fails c.in-Err.cause)

pub returns-clause-why : goal.returns-clause-why
returns-clause-why c =
    let judged = c.in-Err.ensures.judged tt in
    record { cause = c.in-Err.cause; told_is = c.of_open.ensures; why = open_cause c.in-Err.cause judged; whole = judged.whole }
