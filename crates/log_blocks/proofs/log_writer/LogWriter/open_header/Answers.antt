use Rattle.std.proofs.Common.{subst}
use Rattle.disk_model.specs.Disk.{In, IsSettledIn, Runs, Same, Torn}
use Rattle.disk_model.specs.Moments.{runs_then_stays}
use Rattle.log_blocks.specs.Writing.{LogWriterView}
use Rattle.log_blocks.proofs.log_writer.LogWriter.open_header.Goals as goal

pub returns-in_err-sync-clause-runs : goal.returns-in_err-sync-clause-runs
returns-in_err-sync-clause-runs g c =
    subst (λ (v : LogWriterView). Runs (In v.file (Torn 0 1)) Same (g.M.Machine.disk c.args.machine.now) (g.M.Machine.disk c.sync.new.self)) c.self.view_is
    (runs_then_stays _ _ _ (In c.self.inside.file (Torn 0 1)) c.write_at.ensures.runs c.sync.ensures.kept)

pub returns-clause-runs : goal.returns-clause-runs
returns-clause-runs g c =
    subst (λ (v : LogWriterView). Runs (In v.file (Torn 0 1)) Same (g.M.Machine.disk c.args.machine.now) (g.M.Machine.disk c.sync.new.self)) c.self.view_is
    (runs_then_stays _ _ _ (In c.self.inside.file (Torn 0 1)) c.write_at.ensures.runs c.sync.ensures.kept)

pub returns-clause-settled : goal.returns-clause-settled
returns-clause-settled g c = subst (λ (v : LogWriterView). IsSettledIn v.file (g.M.Machine.disk c.sync.new.self)) c.self.view_is c.in_ok-sync.ensures.settled
