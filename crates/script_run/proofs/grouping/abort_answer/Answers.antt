use Rattle.script_run.proofs.FindingLemmas.{abort_not_finds}
use Rattle.script_run.proofs.OpenGroups.{group_given, none_given}
use Rattle.script_run.proofs.grouping.abort_answer.Goals as goal

pub given_up-requires-clause-inside : goal.given_up-requires-clause-inside
given_up-requires-clause-inside g c = group_given c.args.engine.now c.in-Some.field-0 c.group.result c.group.ensures c.in-Some.is

pub returns-in-Some : goal.returns-in-Some
returns-in-Some g c = c.given_up.ensures

pub returns-in-None : goal.returns-in-None
returns-in-None g c = abort_not_finds (g.met.M.Machine.lawful c.args.machine.now) c.requires (none_given c.args.engine.now c.group.result c.group.ensures c.in-None.is)
