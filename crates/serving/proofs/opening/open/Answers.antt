use Rattle.std.proofs.Common.{◌≡◌, ap, subst, ℕ, Option, Some, Result}
use Rattle.std.specs.Prelude.{OnOk}
use Rattle.std.specs.Option.{is_some}
use Rattle.disk_model.specs.declared.machine.Failed.{Failed as Failure}
use Rattle.shell_base.specs.FetchLaws.{not_a_fault}
use Rattle.serving.proofs.Ends.{force_done, force_failed, not_failed}
use Rattle.serving.proofs.Stables.{kept_stable}
use Rattle.serving.proofs.opening.open.Goals as goal

pub returns-in-Ok : goal.returns-in-Ok
returns-in-Ok g c =
    let (answer, same, it) = c.begin-begun.ensures.alone c.requires.alone in
    let after = c.begin-begun.new.self in
    let done = force_done answer c.begin-begun.result c.in-Ok.field-0 same c.in-Ok.is in
    let well = not_failed answer c.in-Ok.field-0 done in
    record {
      call = record { time = it.call.time; unbroken = not_a_fault after.broken (λ e. well (it.call.broken.0 e)); cause = tt };
      inside = ap (λ (o : Option ℕ). is_some o) (subst (λ (r : Result _ Failure). OnOk r (after.group ≡ Some after.parts.log.next)) done it.opened);
      keeps = λ lo hi p commands names stable h. kept_stable h c.requires.alone it.commands it.call.time it.call.quiet (c.engine_stands.ensures p commands) (λ is. well);
    }

pub returns-in-Err : goal.returns-in-Err
returns-in-Err g c =
    let (answer, same, it) = c.begin-begun.ensures.alone c.requires.alone in
    record {
      call = record { time = it.call.time; unbroken = tt; cause = it.call.fault (force_failed answer c.begin-begun.result c.in-Err.field-0 same c.in-Err.is) };
      inside = tt;
      keeps = λ lo hi p commands names stable h. kept_stable h c.requires.alone it.commands it.call.time it.call.quiet (c.engine_stands.ensures p commands) (λ is. cc is);
    }
