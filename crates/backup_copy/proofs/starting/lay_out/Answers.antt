use Rattle.disk_model.specs.Disk.{Same, In, Torn}
use Rattle.disk_model.specs.declared.machine.FileNo.TheVariants.{Objects}
use Rattle.log_blocks.specs.Creating.{LogsAlone}
use Rattle.stable_objects.specs.Making.{KeepsGate}
use Rattle.backup_copy.proofs.LaidOut.{begun_copy, behind_start, closing, laying_out, logging, none_still, quiet_run, quiet_twice}
use Rattle.backup_copy.proofs.starting.lay_out.Goals as goal

pub returns-in_err-close-clause-moments : goal.returns-in_err-close-clause-moments
returns-in_err-close-clause-moments g c told none =
    let old = g.T.Machine.disk c.args.target.now in
    let mid = g.T.Machine.disk c.settle.new.machine in
    let closed = g.T.Machine.disk c.close.new.machine in
    behind_start old mid closed c.settle.ensures.kept told
    (closing mid closed closed (c.settle.ensures.kept.time.moments_told.0 told) c.in_ok-settle.ensures.settled (none_still old mid c.settle.ensures.kept told none) c.close.ensures.runs c.close.ensures.idle)

pub returns-in_err-create-clause-quiet : goal.returns-in_err-create-clause-quiet
returns-in_err-create-clause-quiet g c =
    let old = g.T.Machine.disk c.args.target.now in
    let mid = g.T.Machine.disk c.settle.new.machine in
    let closed = g.T.Machine.disk c.close.new.machine in
    let logged = g.T.Machine.disk c.create.new.m in
    quiet_twice old closed logged LogsAlone (quiet_twice old mid closed (In Objects (Torn 0 1)) (quiet_run old mid Same c.settle.ensures.kept) c.close.ensures.runs) c.create.ensures.runs

pub returns-in_err-create-clause-moments : goal.returns-in_err-create-clause-moments
returns-in_err-create-clause-moments g c told none =
    let old = g.T.Machine.disk c.args.target.now in
    let mid = g.T.Machine.disk c.settle.new.machine in
    let closed = g.T.Machine.disk c.close.new.machine in
    let logged = g.T.Machine.disk c.create.new.m in
    behind_start old mid logged c.settle.ensures.kept told
    (logging mid closed logged (c.settle.ensures.kept.time.moments_told.0 told) c.in_ok-settle.ensures.settled (none_still old mid c.settle.ensures.kept told none) c.close.ensures.runs c.close.ensures.idle
    c.in_ok-close.ensures.settled c.in_ok-close.ensures.closed c.create.ensures.runs)

pub returns-in_err-lay_out-clause-quiet : goal.returns-in_err-lay_out-clause-quiet
returns-in_err-lay_out-clause-quiet g c =
    let old = g.T.Machine.disk c.args.target.now in
    let mid = g.T.Machine.disk c.settle.new.machine in
    let closed = g.T.Machine.disk c.close.new.machine in
    let logged = g.T.Machine.disk c.create.new.m in
    let laid = g.T.Machine.disk c.lay_out.new.machine in
    quiet_twice old logged laid (In Objects KeepsGate)
    (quiet_twice old closed logged LogsAlone (quiet_twice old mid closed (In Objects (Torn 0 1)) (quiet_run old mid Same c.settle.ensures.kept) c.close.ensures.runs) c.create.ensures.runs) c.lay_out.ensures.runs

pub returns-in_err-lay_out-clause-moments : goal.returns-in_err-lay_out-clause-moments
returns-in_err-lay_out-clause-moments g c told none =
    let old = g.T.Machine.disk c.args.target.now in
    let mid = g.T.Machine.disk c.settle.new.machine in
    let closed = g.T.Machine.disk c.close.new.machine in
    let logged = g.T.Machine.disk c.create.new.m in
    let laid = g.T.Machine.disk c.lay_out.new.machine in
    behind_start old mid laid c.settle.ensures.kept told
    (laying_out mid closed logged (c.settle.ensures.kept.time.moments_told.0 told) c.in_ok-settle.ensures.settled (none_still old mid c.settle.ensures.kept told none) c.close.ensures.runs c.close.ensures.idle
    c.in_ok-close.ensures.settled c.in_ok-close.ensures.closed c.create.ensures.runs laid c.in_ok-create.ensures.settled c.lay_out.ensures.runs)

pub returns-clause-quiet : goal.returns-clause-quiet
returns-clause-quiet g c =
    let old = g.T.Machine.disk c.args.target.now in
    let mid = g.T.Machine.disk c.settle.new.machine in
    let closed = g.T.Machine.disk c.close.new.machine in
    let logged = g.T.Machine.disk c.create.new.m in
    let laid = g.T.Machine.disk c.lay_out.new.machine in
    quiet_twice old logged laid (In Objects KeepsGate)
    (quiet_twice old closed logged LogsAlone (quiet_twice old mid closed (In Objects (Torn 0 1)) (quiet_run old mid Same c.settle.ensures.kept) c.close.ensures.runs) c.create.ensures.runs) c.lay_out.ensures.runs

pub returns-clause-moments : goal.returns-clause-moments
returns-clause-moments g c told none =
    let old = g.T.Machine.disk c.args.target.now in
    let mid = g.T.Machine.disk c.settle.new.machine in
    let closed = g.T.Machine.disk c.close.new.machine in
    let logged = g.T.Machine.disk c.create.new.m in
    let laid = g.T.Machine.disk c.lay_out.new.machine in
    behind_start old mid laid c.settle.ensures.kept told
    (laying_out mid closed logged (c.settle.ensures.kept.time.moments_told.0 told) c.in_ok-settle.ensures.settled (none_still old mid c.settle.ensures.kept told none) c.close.ensures.runs c.close.ensures.idle
    c.in_ok-close.ensures.settled c.in_ok-close.ensures.closed c.create.ensures.runs laid c.in_ok-create.ensures.settled c.lay_out.ensures.runs)

pub returns-clause-laid_out : goal.returns-clause-laid_out
returns-clause-laid_out g c tells cells =
    let closed = g.T.Machine.disk c.close.new.machine in
    let logged = g.T.Machine.disk c.create.new.m in
    let laid = g.T.Machine.disk c.lay_out.new.machine in
    let tells_mid = c.settle.ensures.kept.time.files_told.0 tells in
    let tells_closed = c.close.ensures.runs.time.files_told.0 tells_mid in
    begun_copy c.args.params cells closed logged laid tells_closed (c.in_ok-close.ensures.closed tells_mid) c.create.ensures.runs (c.in_ok-create.ensures.made tells_closed) c.lay_out.ensures.runs
    (c.in_ok-lay_out.ensures.settled (c.in_ok-create.ensures.settled (c.in_ok-close.ensures.settled c.in_ok-settle.ensures.settled)))
    (c.in_ok-lay_out.ensures.laid_out (c.create.ensures.runs.time.files_told.0 tells_closed)) (λ new. c.a_file_is_filled.ensures.begins c.args.params cells _ new)
