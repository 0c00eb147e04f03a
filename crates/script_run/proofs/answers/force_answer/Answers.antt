use Rattle.std.proofs.Common.{refl, Ok, Err}
use Rattle.script_run.proofs.FindingLemmas.{force_finds}
use Rattle.script_run.proofs.answers.force_answer.Goals as goal

pub returns-in-Ok : goal.returns-in-Ok
returns-in-Ok g c = force_finds g.M.Machine.disk (Ok c.in-Ok.count) refl (g.met.M.Machine.lawful c.args.machine.now) c.requires c.in-Ok.ensures.in_group c.in-Ok.ensures.alone

pub returns-in-Err : goal.returns-in-Err
returns-in-Err g c = force_finds g.M.Machine.disk (Err c.in-Err.error) c.refused.ensures (g.met.M.Machine.lawful c.args.machine.now) c.requires c.in-Err.ensures.in_group c.in-Err.ensures.alone
