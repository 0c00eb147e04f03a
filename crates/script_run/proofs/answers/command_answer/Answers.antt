use Rattle.std.proofs.Common.{refl, Ok, Err}
use Rattle.script_run.proofs.FindingLemmas.{exec_finds}
use Rattle.script_run.proofs.answers.command_answer.Goals as goal

pub returns-in-Ok : goal.returns-in-Ok
returns-in-Ok g c = exec_finds c.args.op (Ok c.in-Ok.field-0) refl (g.met.M.Machine.lawful c.exec.new.machine) c.live_cache_is_the_map.ensures c.in-Ok.ensures.run

pub returns-in-Err : goal.returns-in-Err
returns-in-Err g c = exec_finds c.args.op (Err c.in-Err.error) c.error_answer.ensures (g.met.M.Machine.lawful c.exec.new.machine) c.live_cache_is_the_map.ensures c.in-Err.ensures.run
