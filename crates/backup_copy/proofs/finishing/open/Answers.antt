use Rattle.disk_model.specs.Disk.{Same, In, Torn}
use Rattle.disk_model.specs.declared.machine.FileNo.TheVariants.{Objects}
use Rattle.backup_copy.proofs.LaidOut.{quiet_run, quiet_twice}
use Rattle.backup_copy.proofs.Opened.{all_opened, opening, settled_synced, syncing}
use Rattle.backup_copy.proofs.finishing.open.Goals as goal

pub returns-in_err-sync-clause-moments : goal.returns-in_err-sync-clause-moments
returns-in_err-sync-clause-moments g c told a b shut = syncing (g.T.Machine.disk c.args.target.now) (g.T.Machine.disk c.sync.new.self) c.sync.ensures.kept told shut

pub returns-in_err-open-clause-quiet : goal.returns-in_err-open-clause-quiet
returns-in_err-open-clause-quiet g c =
    let old = g.T.Machine.disk c.args.target.now in
    let mid = g.T.Machine.disk c.sync.new.self in
    quiet_twice old mid (g.T.Machine.disk c.open.new.machine) (In Objects (Torn 0 1)) (quiet_run old mid Same c.sync.ensures.kept) c.open.ensures.runs

pub returns-in_err-open-clause-moments : goal.returns-in_err-open-clause-moments
returns-in_err-open-clause-moments g c told a b shut =
    opening (g.T.Machine.disk c.args.target.now) (g.T.Machine.disk c.sync.new.self) c.sync.ensures.kept a b c.in_ok-sync.ensures.settled (g.T.Machine.disk c.open.new.machine) told shut c.open.ensures.runs

pub returns-clause-quiet : goal.returns-clause-quiet
returns-clause-quiet g c =
    let old = g.T.Machine.disk c.args.target.now in
    let mid = g.T.Machine.disk c.sync.new.self in
    quiet_twice old mid (g.T.Machine.disk c.open.new.machine) (In Objects (Torn 0 1)) (quiet_run old mid Same c.sync.ensures.kept) c.open.ensures.runs

pub returns-clause-moments : goal.returns-clause-moments
returns-clause-moments g c told a b shut =
    opening (g.T.Machine.disk c.args.target.now) (g.T.Machine.disk c.sync.new.self) c.sync.ensures.kept a b c.in_ok-sync.ensures.settled (g.T.Machine.disk c.open.new.machine) told shut c.open.ensures.runs

pub returns-clause-opened : goal.returns-clause-opened
returns-clause-opened g c told a b =
    let old = g.T.Machine.disk c.args.target.now in
    let mid = g.T.Machine.disk c.sync.new.self in
    let kept = c.sync.ensures.kept in
    all_opened old mid kept a b c.in_ok-sync.ensures.settled (g.T.Machine.disk c.open.new.machine) told c.open.ensures.runs (c.in_ok-open.ensures.opened (kept.time.files_told.0 told))
    (c.in_ok-open.ensures.settled (settled_synced old mid kept a b c.in_ok-sync.ensures.settled))
