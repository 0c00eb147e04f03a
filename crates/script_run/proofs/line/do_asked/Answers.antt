use Rattle.std.proofs.Common.{None, Some}
use Rattle.script_run.proofs.FindingLemmas.{bad_finds, beside_for, finds_beside}
use Rattle.script_run.proofs.LineLemmas.{bad_other}
use Rattle.script_run.proofs.SavingLemmas.{BesideLaws}
use Rattle.script_run.proofs.line.do_asked.Goals as goal

pub returns-in-Some-clause-found : goal.returns-in-Some-clause-found
returns-in-Some-clause-found g c = beside_for (Some c.in-Some.line) c.in-Some.is c.do_line.ensures.found

pub returns-in-None-clause-found : goal.returns-in-None-clause-found
returns-in-None-clause-found g c =
    let laws : BesideLaws (g.M.Machine.disk c.args.machine.now) (g.M.Machine.disk c.args.machine.now) (g.T.Machine.disk c.args.backup.now) = record {
      force = c.calls_go_beside_a_copy.ensures.force;
      install = c.calls_go_beside_a_copy.ensures.install;
      drain = c.calls_go_beside_a_copy.ensures.drain;
      checkpoint = c.calls_go_beside_a_copy.ensures.checkpoint;
      begin = c.calls_go_beside_a_copy.ensures.begin;
      end = c.calls_go_beside_a_copy.ensures.end;
      steps = λ p before after w steps taken. c.copies_go_on.ensures.steps p c.args.machine.now c.args.machine.now before after w steps taken c.args.backup.now;
      commands = λ p before after w limit used ops. c.copies_go_on.ensures.commands p c.args.machine.now c.args.machine.now before after w limit used ops c.args.backup.now;
    } in
    beside_for None c.in-None.is (finds_beside g.T.Machine.disk c.args.backup.now laws bad_other (bad_finds (g.met.M.Machine.lawful c.args.machine.now) c.requires))
