use Rattle.script_run.proofs.FindingLemmas.{end_finds, end_not_finds}
use Rattle.script_run.proofs.GroupingLemmas.{closed_now, was_closed, was_open}
use Rattle.script_run.proofs.grouping.end_answer.Goals as goal

pub returns-in-Ok : goal.returns-in-Ok
returns-in-Ok g c =
    let some = was_open c.args.engine.now c.end.new.self c.in-Ok.field-0 c.in-Ok.ensures.none in
    end_finds (g.met.M.Machine.lawful c.args.machine.now) c.requires c.group_is_closed.ensures some (closed_now c.args.engine.now c.end.new.self c.end.result c.end.ensures.some some)

pub returns-in-Err : goal.returns-in-Err
returns-in-Err g c =
    let alone = was_closed c.args.engine.now c.end.new.self c.in-Err.field-0 c.in-Err.ensures.some in
    end_not_finds (g.met.M.Machine.lawful c.args.machine.now) c.requires alone (c.in-Err.ensures.none alone).1
