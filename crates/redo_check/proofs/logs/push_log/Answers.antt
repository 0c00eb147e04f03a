use Rattle.disk_model.specs.Moments.{agreed_before, stays_twice}
use Rattle.std.proofs.Common.{refl}
use Rattle.formats.specs.declared.read_err.ReadErr.TheVariants.{DiskFault}
use Rattle.tool_output.specs.FoundLaws.{stopped_by}
use Rattle.tool_output.specs.FaultLaws.{rises_since}
use Rattle.redo_check.proofs.FileLemmas.{log_said}
use Rattle.redo_check.proofs.logs.push_log.Goals as goal

pub returns-in_err-read_padded-clause-kept : goal.returns-in_err-read_padded-clause-kept
returns-in_err-read_padded-clause-kept g c = stays_twice _ _ _ c.size.ensures.kept c.read_padded.ensures.kept

pub returns-in_err-push_lines-clause-kept : goal.returns-in_err-push_lines-clause-kept
returns-in_err-push_lines-clause-kept g c = stays_twice _ _ _ c.size.ensures.kept c.read_padded.ensures.kept

pub returns-clause-kept : goal.returns-clause-kept
returns-clause-kept g c = stays_twice _ _ _ c.size.ensures.kept c.read_padded.ensures.kept

pub returns-clause-text : goal.returns-clause-text
returns-clause-text g c files agrees =
    log_said c.args.file (files c.args.file) c.read_padded.new.into c.in_ok-size.size c.args.text.now.items c.push_lines.new.text.items (c.in_ok-size.ensures.size files (agreed_before c.read_padded.ensures.kept files agrees))
    (c.in_ok-read_padded.ensures.bytes files agrees) c.in_ok-push_lines.ensures

pub returns-in_err-read_padded-clause-cause : goal.returns-in_err-read_padded-clause-cause
returns-in_err-read_padded-clause-cause g c = stopped_by c.from_residual-in_err-read_padded.result DiskFault _ c.from_residual-in_err-read_padded.ensures.1 (rises_since (g.M.Machine.disk c.args.machine.now).disk_faults (g.M.Machine.disk c.size.new.self).disk_faults (g.M.Machine.disk c.read_padded.new.machine).disk_faults c.size.ensures.kept.time.disk_faults (c.in_err-read_padded.ensures.cause refl))
