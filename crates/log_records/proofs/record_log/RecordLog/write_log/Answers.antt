use Rattle.disk_model.specs.Disk.{In}
use Rattle.disk_model.specs.Moments.{runs_then_stays}
use Rattle.log_blocks.specs.Reading.{fails_on}
use Rattle.log_blocks.specs.Rewriting.{KeepsClosed}
use Rattle.log_records.proofs.Copies.{fault_still, rises_until}
use Rattle.log_records.proofs.record_log.RecordLog.write_log.Goals as goal

pub returns-in_err-sync-in-Err-clause-runs : goal.returns-in_err-sync-in-Err-clause-runs
returns-in_err-sync-in-Err-clause-runs g c =
    runs_then_stays (g.M.Machine.disk c.args.m.now) (g.M.Machine.disk c.put_log.new.m) (g.M.Machine.disk c.sync.new.self) (In c.args.out.now.file KeepsClosed) c.put_log.ensures.runs c.sync.ensures.kept

pub returns-in_ok-sync-in-Err-clause-runs : goal.returns-in_ok-sync-in-Err-clause-runs
returns-in_ok-sync-in-Err-clause-runs g c =
    runs_then_stays (g.M.Machine.disk c.args.m.now) (g.M.Machine.disk c.put_log.new.m) (g.M.Machine.disk c.sync.new.self) (In c.args.out.now.file KeepsClosed) c.put_log.ensures.runs c.sync.ensures.kept

pub returns-in_ok-sync-in-Err-clause-cause : goal.returns-in_ok-sync-in-Err-clause-cause
returns-in_ok-sync-in-Err-clause-cause g c =
    let now = c.args.self.now in
    let mid = g.M.Machine.disk c.put_log.new.m in
    let new = g.M.Machine.disk c.sync.new.self in
    let cause = rw c.in-Err.is at c.put_log.ensures.cause in
    fails_on _ _ _ _ c.in-Err.e (rises_until (g.M.Machine.disk c.args.m.now) mid new c.sync.ensures.kept.time.disk_faults)
    (λ f place there. fault_still (g.O.Oper.meaning now.bounds) mid new now.log f place c.sync.ensures.kept there) cause
