use Rattle.std.proofs.Common.{[], arith, rules}
use Rattle.shell_base.specs.StopLaws.{damaged_status, no_backup_fault, no_disk_fault}
use Rattle.shell_base.specs.HoldLaws.{told_by, attached_of, rises_within}
use Rattle.script_run.proofs.NotedLemmas.{damage_undone, script_input, undone_input}
use Rattle.script_run.proofs.OpenLemmas.{run_completes, run_ends}
use Rattle.script_run.proofs.ScriptLemmas.{run_beside, run_faults, run_status, whole_end}
use Rattle.script_run.proofs.running.run_open.Goals as goal

pub returns-in_default-clause-answers : goal.returns-in_default-clause-answers
returns-in_default-clause-answers g c = λ p commands holds all alone told.
    run_ends (g.M.Machine.disk c.args.machine.now) (g.M.Machine.disk c.answer_script-outcome.new.machine) c.answer_script-outcome.result c.status_after.result c.status_after.ensures (c.answer_script-outcome.ensures.answers p commands holds all alone told)

pub returns-in_default-clause-complete : goal.returns-in_default-clause-complete
returns-in_default-clause-complete g c = λ p commands holds all alone told.
    run_completes (g.M.Machine.disk c.args.machine.now) (g.M.Machine.disk c.answer_script-outcome.new.machine) c.answer_script-outcome.result c.status_after.result c.status_after.ensures (c.answer_script-outcome.ensures.complete p commands holds all alone told)

pub returns-in_default-clause-some : goal.returns-in_default-clause-some
returns-in_default-clause-some g c =
    let (script, each, backed) = c.answer_script-outcome.ensures.some in (
      script,
      λ p commands holds all alone.
          let (answers, complete) = each p commands holds all alone in
          (run_ends (g.M.Machine.disk c.args.machine.now) (g.M.Machine.disk c.answer_script-outcome.new.machine) c.answer_script-outcome.result c.status_after.result c.status_after.ensures answers, run_completes (g.M.Machine.disk c.args.machine.now) (g.M.Machine.disk c.answer_script-outcome.new.machine) c.answer_script-outcome.result c.status_after.result c.status_after.ensures complete),
      backed,
    )

pub returns-in-Err-Damaged-clause-answers : goal.returns-in-Err-Damaged-clause-answers
returns-in-Err-Damaged-clause-answers g c = λ p commands holds all alone told.
    absurd (whole_end (c.answer_script-outcome.ensures.undamaged (told_by holds) (attached_of holds)) {file = c.in-Err-Damaged.file} {place = c.in-Err-Damaged.place} (search rules))

pub returns-in-Err-Damaged-clause-some : goal.returns-in-Err-Damaged-clause-some
returns-in-Err-Damaged-clause-some g c = (
  [],
  λ p commands holds all alone.
      absurd (whole_end (c.answer_script-outcome.ensures.undamaged (told_by holds) (attached_of holds)) {file = c.in-Err-Damaged.file} {place = c.in-Err-Damaged.place} (search rules)),
  λ p commands holds all alone none.
      absurd (whole_end (c.answer_script-outcome.ensures.undamaged (told_by holds) (attached_of holds)) {file = c.in-Err-Damaged.file} {place = c.in-Err-Damaged.place} (search rules)),
)

pub returns-in_default-clause-backup : goal.returns-in_default-clause-backup
returns-in_default-clause-backup g c = c.answer_script-outcome.ensures.backup

pub returns-in_default-clause-beside : goal.returns-in_default-clause-beside
returns-in_default-clause-beside g c = run_beside (g.M.Machine.disk c.args.machine.now) (g.M.Machine.disk c.answer_script-outcome.new.machine) (g.S.Source.faults c.args.input.now) (g.S.Source.faults c.answer_script-outcome.new.input) (g.T.Machine.disk c.args.backup.now) (g.T.Machine.disk c.answer_script-outcome.new.backup)
    c.answer_script-outcome.result c.status_after.result c.status_after.ensures c.answer_script-outcome.ensures.cause c.answer_script-outcome.ensures.backup_time

pub returns-in_default-clause-faults : goal.returns-in_default-clause-faults
returns-in_default-clause-faults g c = run_faults (g.M.Machine.disk c.args.machine.now) (g.M.Machine.disk c.answer_script-outcome.new.machine) (g.S.Source.faults c.args.input.now) (g.S.Source.faults c.answer_script-outcome.new.input) (g.T.Machine.disk c.args.backup.now) (g.T.Machine.disk c.answer_script-outcome.new.backup)
    c.answer_script-outcome.result c.status_after.result c.status_after.ensures c.answer_script-outcome.ensures.cause

pub returns-in-Err-Damaged-clause-backup : goal.returns-in-Err-Damaged-clause-backup
returns-in-Err-Damaged-clause-backup g c = λ p commands holds all alone none told.
    absurd (whole_end (c.answer_script-outcome.ensures.undamaged (told_by holds) (attached_of holds)) {file = c.in-Err-Damaged.file} {place = c.in-Err-Damaged.place} (search rules))

pub returns-in-Err-Damaged-clause-beside : goal.returns-in-Err-Damaged-clause-beside
returns-in-Err-Damaged-clause-beside g c = record {
  time = c.answer_script-outcome.ensures.backup_time;
  fault = λ is. absurd (no_backup_fault c.end_damaged.result c.end_damaged.ensures.status is);
}

pub returns-in-Err-Damaged-clause-faults : goal.returns-in-Err-Damaged-clause-faults
returns-in-Err-Damaged-clause-faults g c = record {
  disk = λ is. absurd (no_disk_fault c.end_damaged.result c.end_damaged.ensures.status is);
  output = λ is. rises_within _ _ _ _ c.answer_script-outcome.ensures.time.say_faults (omega arith) (c.end_damaged.ensures.cause is);
}

pub returns-in_default-clause-status : goal.returns-in_default-clause-status
returns-in_default-clause-status g c = run_status c.answer_script-outcome.result c.status_after.result c.status_after.ensures

pub returns-in-Err-Damaged-clause-status : goal.returns-in-Err-Damaged-clause-status
returns-in-Err-Damaged-clause-status g c = damaged_status c.end_damaged.result c.end_damaged.ensures.status

pub answer_script-outcome-requires : goal.answer_script-outcome-requires
answer_script-outcome-requires g c = record { sound = c.requires.sound; fresh = c.requires.fresh }

pub returns-in_default-clause-input : goal.returns-in_default-clause-input
returns-in_default-clause-input g c = λ told. script_input c.answer_script-outcome.result c.status_after.result c.status_after.ensures (c.answer_script-outcome.ensures.input told)

pub returns-in-Err-Damaged-clause-input : goal.returns-in-Err-Damaged-clause-input
returns-in-Err-Damaged-clause-input g c = λ told. undone_input c.end_damaged.result (damage_undone c.end_damaged.result c.end_damaged.ensures.status) (c.answer_script-outcome.ensures.input told)
