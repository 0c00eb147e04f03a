use Rattle.std.proofs.Common.{sym, subst}
use Rattle.shell_base.specs.FetchLaws.{not_a_fault}
use Rattle.shell_base.specs.Stops.{IsCaused}
use Rattle.shell_base.specs.declared.stop.Stop.{Stop}
use Rattle.serving.proofs.Stables.{kept_stable}
use Rattle.serving.proofs.Upkept.{read_caused, read_well}
use Rattle.serving.proofs.hearing.tend.Goals as goal

pub returns-in-Ok : goal.returns-in-Ok
returns-in-Ok g c =
    let it = (c.keep_up-kept.ensures.alone c.requires.alone).done in
    let well = read_well c.keep_up-kept.result c.in-Ok.field-0 c.in-Ok.is in
    record {
      call = record { time = it.call.time; unbroken = not_a_fault c.keep_up-kept.new.self.broken (λ e. well (it.call.broken.0 e)); cause = tt };
      keeps = λ lo hi p commands names stable h. kept_stable h c.requires.alone it.commands it.call.time it.call.quiet (c.engine_stands.ensures p commands) (λ is. well);
    }

pub returns-in-Err : goal.returns-in-Err
returns-in-Err g c =
    let old = g.M.Machine.disk c.args.machine.now in
    let new = g.M.Machine.disk c.keep_up-kept.new.machine in
    let it = (c.keep_up-kept.ensures.alone c.requires.alone).done in
    record {
      call = record { time = it.call.time; unbroken = tt; cause = subst (λ (s : Stop). IsCaused s old new) (sym c.from.ensures) (read_caused old new c.keep_up-kept.result c.in-Err.error c.in-Err.is it.call.fault) };
      keeps = λ lo hi p commands names stable h. kept_stable h c.requires.alone it.commands it.call.time it.call.quiet (c.engine_stands.ensures p commands) (λ is. cc is);
    }
