use Rattle.std.proofs.Common.{refl, sym, subst}
use Rattle.command_words.specs.Words.{IsAllowed}
use Rattle.shell_base.specs.Status.{IsOfDump, IsOfFollow, IsOfInit, IsOfShip, IsOfUpgrade}
use Rattle.script_lines.specs.Grammar.{lines_of}
use Rattle.script_run.specs.RunCalls.{IsRunCall}
use Rattle.script_run.specs.Saving.{IsBackupOfRun}
use Rattle.script_run.specs.StartLaws.{beside_none}
use Rattle.script_run.specs.declared.tending.Tending.{Tending}
use Rattle.redo_shell.specs.Demo.{IsOfDemo}
use Rattle.redo_shell.proofs.CallLemmas.{backup_for, call_for}
use Rattle.redo_shell.proofs.BesideLemmas.{noted_for}
use Rattle.redo_shell.proofs.program.serve.Goals as goal

pub init-requires : goal.init-requires
init-requires g c = subst IsAllowed c.in-Init.is c.requires.allowed

pub run-requires : goal.run-requires
run-requires g c = c.requires.fresh

pub upgrade-requires : goal.upgrade-requires
upgrade-requires g c = subst IsAllowed c.in-Upgrade.is c.requires.allowed

pub returns-in-Upgrade-clause-call : goal.returns-in-Upgrade-clause-call
returns-in-Upgrade-clause-call g c = call_for _ _ _ _ _ _ _ (sym c.in-Upgrade.is) c.upgrade.ensures.call

pub returns-in-Upgrade-clause-read_fault : goal.returns-in-Upgrade-clause-read_fault
returns-in-Upgrade-clause-read_fault g c = λ is. absurd (subst IsOfUpgrade is c.upgrade.ensures.call.ends)

pub returns-in-Upgrade-clause-too_long : goal.returns-in-Upgrade-clause-too_long
returns-in-Upgrade-clause-too_long g c = λ told is. absurd (subst IsOfUpgrade is c.upgrade.ensures.call.ends)

pub returns-in-Run-clause-call : goal.returns-in-Run-clause-call
returns-in-Run-clause-call g c = call_for _ _ _ _ _ _ _ (sym c.in-Run.is) (subst (λ (t : Tending). IsRunCall t c.args.budget (g.S.Source.tells c.args.input.now) (g.S.Source.left c.args.input.now) (g.S.Source.left c.run.new.input) (g.M.Machine.disk c.args.machine.now) (g.M.Machine.disk c.run.new.machine) c.run.result) c.of.ensures c.run.ensures.call)

pub returns-in-Dump-clause-call : goal.returns-in-Dump-clause-call
returns-in-Dump-clause-call g c = call_for _ _ _ _ _ _ _ (sym c.in-Dump.is) c.dump.ensures.call

pub returns-in-Dump-clause-read_fault : goal.returns-in-Dump-clause-read_fault
returns-in-Dump-clause-read_fault g c = λ is. absurd (subst IsOfDump is c.dump.ensures.call.ends)

pub returns-in-Dump-clause-too_long : goal.returns-in-Dump-clause-too_long
returns-in-Dump-clause-too_long g c = λ told is. absurd (subst IsOfDump is c.dump.ensures.call.ends)

pub returns-in-Init-clause-call : goal.returns-in-Init-clause-call
returns-in-Init-clause-call g c = call_for _ _ _ _ _ _ _ (sym c.in-Init.is) c.init.ensures.making

pub returns-in-Init-clause-read_fault : goal.returns-in-Init-clause-read_fault
returns-in-Init-clause-read_fault g c = λ is. absurd (subst IsOfInit is c.init.ensures.making.ends)

pub returns-in-Init-clause-too_long : goal.returns-in-Init-clause-too_long
returns-in-Init-clause-too_long g c = λ told is. absurd (subst IsOfInit is c.init.ensures.making.ends)

pub returns-in-Demo-clause-call : goal.returns-in-Demo-clause-call
returns-in-Demo-clause-call g c = call_for _ _ _ _ _ _ _ (sym c.in-Demo.is) c.demo.ensures.demo

pub returns-in-Demo-clause-read_fault : goal.returns-in-Demo-clause-read_fault
returns-in-Demo-clause-read_fault g c = λ is. absurd (subst IsOfDemo is c.demo.ensures.demo.ends)

pub returns-in-Demo-clause-too_long : goal.returns-in-Demo-clause-too_long
returns-in-Demo-clause-too_long g c = λ told is. absurd (subst IsOfDemo is c.demo.ensures.demo.ends)

pub returns-in-Run-clause-backup : goal.returns-in-Run-clause-backup
returns-in-Run-clause-backup g c = backup_for _ g.T.Machine.disk _ _ _ _ _ _ (sym c.in-Run.is) (subst (λ (t : Tending). IsBackupOfRun t c.args.budget g.T.Machine.disk (g.S.Source.tells c.args.input.now) (lines_of (g.S.Source.left c.args.input.now)) (g.M.Machine.disk c.args.machine.now) (g.M.Machine.disk c.run.new.machine) c.args.backup.now c.run.new.backup) c.of.ensures c.run.ensures.backup)

pub returns-in-Dump-clause-backup : goal.returns-in-Dump-clause-backup
returns-in-Dump-clause-backup g c = backup_for _ g.T.Machine.disk _ _ _ _ _ _ (sym c.in-Dump.is) refl

pub returns-in-Dump-clause-beside : goal.returns-in-Dump-clause-beside
returns-in-Dump-clause-beside g c = beside_none (g.T.Machine.disk c.args.backup.now) c.dump.result (λ is. subst IsOfDump is c.dump.ensures.call.ends)

pub returns-in-Init-clause-backup : goal.returns-in-Init-clause-backup
returns-in-Init-clause-backup g c = backup_for _ g.T.Machine.disk _ _ _ _ _ _ (sym c.in-Init.is) refl

pub returns-in-Init-clause-beside : goal.returns-in-Init-clause-beside
returns-in-Init-clause-beside g c = beside_none (g.T.Machine.disk c.args.backup.now) c.init.result (λ is. subst IsOfInit is c.init.ensures.making.ends)

pub returns-in-Demo-clause-backup : goal.returns-in-Demo-clause-backup
returns-in-Demo-clause-backup g c = backup_for _ g.T.Machine.disk _ _ _ _ _ _ (sym c.in-Demo.is) refl

pub returns-in-Demo-clause-beside : goal.returns-in-Demo-clause-beside
returns-in-Demo-clause-beside g c = beside_none (g.T.Machine.disk c.args.backup.now) c.demo.result (λ is. subst IsOfDemo is c.demo.ensures.demo.ends)

pub returns-in-Upgrade-clause-backup : goal.returns-in-Upgrade-clause-backup
returns-in-Upgrade-clause-backup g c = backup_for _ g.T.Machine.disk _ _ _ _ _ _ (sym c.in-Upgrade.is) refl

pub returns-in-Upgrade-clause-beside : goal.returns-in-Upgrade-clause-beside
returns-in-Upgrade-clause-beside g c = beside_none (g.T.Machine.disk c.args.backup.now) c.upgrade.result (λ is. subst IsOfUpgrade is c.upgrade.ensures.call.ends)

pub returns-in-Ship-clause-call : goal.returns-in-Ship-clause-call
returns-in-Ship-clause-call g c = call_for _ _ _ _ _ _ _ (sym c.in-Ship.is) c.ship.ensures.call

pub returns-in-Ship-clause-read_fault : goal.returns-in-Ship-clause-read_fault
returns-in-Ship-clause-read_fault g c = λ is. absurd (subst IsOfShip is c.ship.ensures.call.ends)

pub returns-in-Ship-clause-too_long : goal.returns-in-Ship-clause-too_long
returns-in-Ship-clause-too_long g c = λ told is. absurd (subst IsOfShip is c.ship.ensures.call.ends)

pub returns-in-Ship-clause-backup : goal.returns-in-Ship-clause-backup
returns-in-Ship-clause-backup g c = backup_for _ g.T.Machine.disk _ _ _ _ _ _ (sym c.in-Ship.is) refl

pub returns-in-Ship-clause-beside : goal.returns-in-Ship-clause-beside
returns-in-Ship-clause-beside g c = beside_none (g.T.Machine.disk c.args.backup.now) c.ship.result (λ is. subst IsOfShip is c.ship.ensures.call.ends)

pub returns-in-Follow-clause-call : goal.returns-in-Follow-clause-call
returns-in-Follow-clause-call g c = call_for _ _ _ _ _ _ _ (sym c.in-Follow.is) c.follow.ensures.call

pub returns-in-Follow-clause-backup : goal.returns-in-Follow-clause-backup
returns-in-Follow-clause-backup g c = backup_for _ g.T.Machine.disk _ _ _ _ _ _ (sym c.in-Follow.is) refl

pub returns-in-Follow-clause-beside : goal.returns-in-Follow-clause-beside
returns-in-Follow-clause-beside g c = beside_none (g.T.Machine.disk c.args.backup.now) c.follow.result (λ is. subst IsOfFollow is c.follow.ensures.call.ends)

pub returns-in-Run-clause-noted : goal.returns-in-Run-clause-noted
returns-in-Run-clause-noted g c = noted_for _ _ _ _ (sym c.in-Run.is) c.run.ensures.noted

pub returns-in-Dump-clause-noted : goal.returns-in-Dump-clause-noted
returns-in-Dump-clause-noted g c = noted_for _ _ _ _ (sym c.in-Dump.is) c.requires.fresh

pub returns-in-Init-clause-noted : goal.returns-in-Init-clause-noted
returns-in-Init-clause-noted g c = noted_for _ _ _ _ (sym c.in-Init.is) c.requires.fresh

pub returns-in-Demo-clause-noted : goal.returns-in-Demo-clause-noted
returns-in-Demo-clause-noted g c = noted_for _ _ _ _ (sym c.in-Demo.is) c.requires.fresh

pub returns-in-Upgrade-clause-noted : goal.returns-in-Upgrade-clause-noted
returns-in-Upgrade-clause-noted g c = noted_for _ _ _ _ (sym c.in-Upgrade.is) c.requires.fresh

pub returns-in-Ship-clause-noted : goal.returns-in-Ship-clause-noted
returns-in-Ship-clause-noted g c = noted_for _ _ _ _ (sym c.in-Ship.is) c.requires.fresh

pub returns-in-Follow-clause-noted : goal.returns-in-Follow-clause-noted
returns-in-Follow-clause-noted g c = noted_for _ _ _ _ (sym c.in-Follow.is) c.requires.fresh

pub returns-in-Dump-clause-unopened : goal.returns-in-Dump-clause-unopened
returns-in-Dump-clause-unopened g c = λ is. (refl, refl)

pub returns-in-Init-clause-unopened : goal.returns-in-Init-clause-unopened
returns-in-Init-clause-unopened g c = λ is. (refl, refl)

pub returns-in-Demo-clause-unopened : goal.returns-in-Demo-clause-unopened
returns-in-Demo-clause-unopened g c = λ is. (refl, refl)

pub returns-in-Upgrade-clause-unopened : goal.returns-in-Upgrade-clause-unopened
returns-in-Upgrade-clause-unopened g c = λ is. (refl, refl)

pub returns-in-Ship-clause-unopened : goal.returns-in-Ship-clause-unopened
returns-in-Ship-clause-unopened g c = λ is. (refl, refl)

pub returns-in-Run-clause-unopened : goal.returns-in-Run-clause-unopened
returns-in-Run-clause-unopened g c = c.run.ensures.unopened

pub returns-in-Follow-clause-unopened : goal.returns-in-Follow-clause-unopened
returns-in-Follow-clause-unopened g c = λ is. (c.follow.ensures.unopened is, refl)
