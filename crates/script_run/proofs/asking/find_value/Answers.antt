use Rattle.std.proofs.Common.{Ok}
use Rattle.oper_core.specs.declared.refusal.Refusal.TheVariants.{NoObject}
use Rattle.script_lines.specs.declared.answer.Answer.TheVariants.{Refused}
use Rattle.script_run.specs.declared.outcome.Outcome.TheVariants.{Cached, Told}
use Rattle.script_run.proofs.FindingLemmas.{no_object_done, value_done, value_finds, value_stops}
use Rattle.script_run.proofs.asking.find_value.Goals as goal

pub returns-in_err-fetched-clause-found : goal.returns-in_err-fetched-clause-found
returns-in_err-fetched-clause-found g c = value_stops c.args.object c.fetched.ensures.kept c.from_residual.result c.fetched.result _ c.from_residual.ensures.1 c.from_residual.ensures.0 c.in_err-fetched.was c.fetched.ensures.cause c.fetched.ensures.undamaged

pub returns-then-branch-clause-found : goal.returns-then-branch-clause-found
returns-then-branch-clause-found g c = value_finds c.args.object c.fetched.ensures.kept (Ok (Cached c.args.object)) tt (λ told attached. tt) c.in_ok-fetched.ensures.attached c.in_ok-fetched.ensures.unbroken
    (λ p commands line asks holds.
    let (k, same) = c.in_ok-fetched.ensures.holds p commands holds in
    value_done c.args.object c.fetched.ensures.kept asks holds k same (c.in_ok-fetched.ensures.value p commands holds c.if-branch.true))

pub returns-then-branch-clause-readable : goal.returns-then-branch-clause-readable
returns-then-branch-clause-readable g c = c.in_ok-fetched.ensures.cached c.if-branch.true

pub returns-clause-found : goal.returns-clause-found
returns-clause-found g c = value_finds c.args.object c.fetched.ensures.kept (Ok (Told (Refused NoObject))) tt (λ told attached. tt) c.in_ok-fetched.ensures.attached c.in_ok-fetched.ensures.unbroken
    (λ p commands line asks holds.
    let (k, same) = c.in_ok-fetched.ensures.holds p commands holds in
    no_object_done c.args.object c.fetched.ensures.kept asks holds k same (c.in_ok-fetched.ensures.none p commands holds c.if-branch.false))
