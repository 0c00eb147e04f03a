use Rattle.shell_base.specs.FetchLaws.{not_a_fault}
use Rattle.serving.proofs.Ends.{end_is, force_done, force_failed, forces, made_stable, not_failed}
use Rattle.serving.proofs.forcing.close.Goals as goal

pub returns-in-Ok : goal.returns-in-Ok
returns-in-Ok g c =
    let old = g.M.Machine.disk c.args.machine.now in
    let new = g.M.Machine.disk c.force-forced.new.machine in
    let ended = end_is c.end.result c.args.engine.now c.end.new.self c.requires.inside c.end.ensures.some in
    let (answer, same, it) = forces old new c.args.engine.now c.end.new.self c.force-forced.new.self c.force-forced.result ended c.force-forced.ensures.alone in
    let done = force_done answer c.force-forced.result c.in-Ok.field-0 same c.in-Ok.is in
    record {
      call = record { time = it.call.time; unbroken = not_a_fault c.force-forced.new.self.broken (λ e. not_failed answer c.in-Ok.field-0 done (it.call.broken.0 e)); cause = tt };
      forces = λ lo hi p commands names stable h. made_stable h c.requires.inside c.group_is_closed.ensures it (c.engine_stands.ensures p commands) (λ is. (c.in-Ok.field-0, done));
    }

pub returns-in-Err : goal.returns-in-Err
returns-in-Err g c =
    let old = g.M.Machine.disk c.args.machine.now in
    let new = g.M.Machine.disk c.force-forced.new.machine in
    let ended = end_is c.end.result c.args.engine.now c.end.new.self c.requires.inside c.end.ensures.some in
    let (answer, same, it) = forces old new c.args.engine.now c.end.new.self c.force-forced.new.self c.force-forced.result ended c.force-forced.ensures.alone in
    record {
      call = record { time = it.call.time; unbroken = tt; cause = it.call.fault (force_failed answer c.force-forced.result c.in-Err.field-0 same c.in-Err.is) };
      forces = λ lo hi p commands names stable h. made_stable h c.requires.inside c.group_is_closed.ensures it (c.engine_stands.ensures p commands) (λ is. cc is);
    }
