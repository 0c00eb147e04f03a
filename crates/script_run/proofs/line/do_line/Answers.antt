use Rattle.std.proofs.Common.{ap, Some}
use Rattle.script_lines.specs.Grammar.{Request}
use Rattle.script_lines.specs.declared.line.Line.TheVariants.{Run, Make, Ask, Force, Keep, Group, Save, Stat, Skip}
use Rattle.script_run.specs.Finding.{outcome_reply}
use Rattle.script_run.proofs.FindingLemmas.{beside_for, finds_at_once, finds_beside, made_finds, skip_finds, told_beside}
use Rattle.script_run.proofs.LineLemmas.{asks_other}
use Rattle.script_run.proofs.SavingLemmas.{BesideLaws}
use Rattle.script_run.proofs.line.do_line.Given.{Over}
use Rattle.script_run.proofs.line.do_line.Goals.{After-copies_go_on}
use Rattle.script_run.proofs.line.do_line.Goals as goal

module _ (g : Over) (c : After-copies_go_on g) where
  laws : (new : g.row.M.Denot) → BesideLaws (g.M.Machine.disk c.args.machine.now) (g.M.Machine.disk new) (g.T.Machine.disk c.args.backup.now)
  laws new = record {
    force = c.calls_go_beside_a_copy.ensures.force;
    install = c.calls_go_beside_a_copy.ensures.install;
    drain = c.calls_go_beside_a_copy.ensures.drain;
    checkpoint = c.calls_go_beside_a_copy.ensures.checkpoint;
    begin = c.calls_go_beside_a_copy.ensures.begin;
    end = c.calls_go_beside_a_copy.ensures.end;
    steps = λ p before after w steps taken. c.copies_go_on.ensures.steps p c.args.machine.now new before after w steps taken c.args.backup.now;
    commands = λ p before after w limit used ops. c.copies_go_on.ensures.commands p c.args.machine.now new before after w limit used ops c.args.backup.now;
  }

pub returns-in-Run-clause-found : goal.returns-in-Run-clause-found
returns-in-Run-clause-found g c = beside_for (Some (Run c.in-Run.op)) (ap (λ (r : Request). Some r) c.in-Run.is)
    (told_beside c.command_answer.result c.told.ensures.told (finds_beside g.T.Machine.disk c.args.backup.now (laws g (goal.at.returns-in-Run-clause-found g c).After-copies_go_on c.command_answer.new.machine) (asks_other c.a_line_asks_one_thing.ensures (Run c.in-Run.op) (λ none. none)) c.command_answer.ensures))

pub returns-in-Make-clause-found : goal.returns-in-Make-clause-found
returns-in-Make-clause-found g c = beside_for (Some (Make c.in-Make.making)) (ap (λ (r : Request). Some r) c.in-Make.is)
    (told_beside c.made_answer.result c.told-in-Make.ensures.told (finds_beside g.T.Machine.disk c.args.backup.now (laws g (goal.at.returns-in-Make-clause-found g c).After-copies_go_on c.made_answer.new.machine) (asks_other c.a_line_asks_one_thing.ensures (Make c.in-Make.making) (λ none. none)) (made_finds c.commands_log_no_identity.ensures c.made_answer.ensures)))

pub returns-in-Ask-clause-found : goal.returns-in-Ask-clause-found
returns-in-Ask-clause-found g c = beside_for (Some (Ask c.in-Ask.question)) (ap (λ (r : Request). Some r) c.in-Ask.is)
    (finds_beside g.T.Machine.disk c.args.backup.now (laws g (goal.at.returns-in-Ask-clause-found g c).After-copies_go_on c.answer_to.new.machine) (asks_other c.a_line_asks_one_thing.ensures (Ask c.in-Ask.question) (λ none. none)) c.answer_to.ensures.found)

pub returns-in-Force-clause-found : goal.returns-in-Force-clause-found
returns-in-Force-clause-found g c = beside_for (Some Force) (ap (λ (r : Request). Some r) c.in-Force.is)
    (told_beside c.force_answer.result c.told-in-Force.ensures.told (finds_beside g.T.Machine.disk c.args.backup.now (laws g (goal.at.returns-in-Force-clause-found g c).After-copies_go_on c.force_answer.new.machine) (asks_other c.a_line_asks_one_thing.ensures Force (λ none. none)) c.force_answer.ensures))

pub returns-in-Keep-clause-found : goal.returns-in-Keep-clause-found
returns-in-Keep-clause-found g c = beside_for (Some (Keep c.in-Keep.upkeep)) (ap (λ (r : Request). Some r) c.in-Keep.is)
    (told_beside c.upkeep_answer.result c.told-in-Keep.ensures.told (finds_beside g.T.Machine.disk c.args.backup.now (laws g (goal.at.returns-in-Keep-clause-found g c).After-copies_go_on c.upkeep_answer.new.machine) (asks_other c.a_line_asks_one_thing.ensures (Keep c.in-Keep.upkeep) (λ none. none)) c.upkeep_answer.ensures))

pub returns-in-Group-clause-found : goal.returns-in-Group-clause-found
returns-in-Group-clause-found g c = beside_for (Some (Group c.in-Group.grouping)) (ap (λ (r : Request). Some r) c.in-Group.is)
    (told_beside c.group_answer.result c.told-in-Group.ensures.told (finds_beside g.T.Machine.disk c.args.backup.now (laws g (goal.at.returns-in-Group-clause-found g c).After-copies_go_on c.group_answer.new.machine) (asks_other c.a_line_asks_one_thing.ensures (Group c.in-Group.grouping) (λ none. none)) c.group_answer.ensures))

pub returns-in-Save-clause-found : goal.returns-in-Save-clause-found
returns-in-Save-clause-found g c = beside_for (Some (Save c.in-Save.saving)) (ap (λ (r : Request). Some r) c.in-Save.is)
    (told_beside c.saving_answer.result c.told-in-Save.ensures.told c.saving_answer.ensures)

pub returns-in-Stat-clause-found : goal.returns-in-Stat-clause-found
returns-in-Stat-clause-found g c = beside_for (Some Stat) (ap (λ (r : Request). Some r) c.in-Stat.is)
    (finds_beside g.T.Machine.disk c.args.backup.now (laws g (goal.at.returns-in-Stat-clause-found g c).After-copies_go_on c.args.machine.now) (asks_other c.a_line_asks_one_thing.ensures Stat (λ none. none))
    (finds_at_once {reply = outcome_reply c.args.engine.now} (g.met.M.Machine.lawful c.args.machine.now) c.requires (λ p commands line asks holds. c.counts_answer.ensures p commands line holds asks)))

pub returns-in-Skip-clause-found : goal.returns-in-Skip-clause-found
returns-in-Skip-clause-found g c = beside_for (Some Skip) (ap (λ (r : Request). Some r) c.in-Skip.is)
    (finds_beside g.T.Machine.disk c.args.backup.now (laws g (goal.at.returns-in-Skip-clause-found g c).After-copies_go_on c.args.machine.now) (asks_other c.a_line_asks_one_thing.ensures Skip (λ none. none)) (skip_finds (g.met.M.Machine.lawful c.args.machine.now) c.requires))
