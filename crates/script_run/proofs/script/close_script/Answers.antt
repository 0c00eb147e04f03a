use Rattle.std.proofs.Common.{refl}
use Rattle.script_run.proofs.FinishLemmas.{end_closes, finish_follows, finish_forced, finish_images, finish_steps, force_done, force_failed, forces}
use Rattle.script_run.proofs.script.close_script.Goals as goal

pub returns-in-Ok : goal.returns-in-Ok
returns-in-Ok g c =
    let old = g.M.Machine.disk c.args.machine.now in
    let new = g.M.Machine.disk c.force-forced.new.machine in
    let closed = end_closes c.end.result c.args.engine.now c.end.new.self c.end.ensures.none c.end.ensures.some in
    let (answer, same, it) = forces old new c.args.engine.now c.end.new.self c.force-forced.new.self c.force-forced.result closed c.force-forced.ensures.alone in
    let done = force_done answer c.force-forced.result c.in-Ok.field-0 same c.in-Ok.is in
    record {
      time = it.call.time;
      quiet = it.call.quiet;
      forced = λ p commands holds. finish_forced it c.in-Ok.field-0 done holds (c.group_is_closed.ensures p holds.world holds.shows) (c.engine_stands.ensures p commands);
      follows = λ p w shows. finish_follows it c.in-Ok.field-0 done w shows (c.group_is_closed.ensures p w shows);
      images = λ p commands holds told. finish_images it holds (c.group_is_closed.ensures p holds.world holds.shows) told;
      steps = λ told p w shows. finish_steps it w shows (c.group_is_closed.ensures p w shows) told;
      cause = tt;
    }

pub returns-in-Err : goal.returns-in-Err
returns-in-Err g c =
    let old = g.M.Machine.disk c.args.machine.now in
    let new = g.M.Machine.disk c.force-forced.new.machine in
    let closed = end_closes c.end.result c.args.engine.now c.end.new.self c.end.ensures.none c.end.ensures.some in
    let (answer, same, it) = forces old new c.args.engine.now c.end.new.self c.force-forced.new.self c.force-forced.result closed c.force-forced.ensures.alone in
    record {
      time = it.call.time;
      quiet = it.call.quiet;
      forced = λ p commands holds. tt;
      follows = λ p w shows. tt;
      images = λ p commands holds told. finish_images it holds (c.group_is_closed.ensures p holds.world holds.shows) told;
      steps = λ told p w shows. finish_steps it w shows (c.group_is_closed.ensures p w shows) told;
      cause = (refl, it.call.fault (force_failed answer c.force-forced.result c.in-Err.field-0 same c.in-Err.is));
    }
