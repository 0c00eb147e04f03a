use Rattle.stable_objects.proofs.Put.{any_run, any_join, leaves_filling, leaves_opening, put_done}
use Rattle.stable_objects.proofs.replacing.put.Goals as goal

pub returns-in_err-fill-clause-runs : goal.returns-in_err-fill-clause-runs
returns-in_err-fill-clause-runs g c = any_run _ _ _ c.fill.ensures.runs

pub returns-in_err-fill-clause-any_moment : goal.returns-in_err-fill-clause-any_moment
returns-in_err-fill-clause-any_moment g c told settled within closed = leaves_filling _ _ c.args.place c.args.lsn c.args.value.now c.fill.ensures.runs told settled within closed

pub returns-in_err-write_through-clause-runs : goal.returns-in_err-write_through-clause-runs
returns-in_err-write_through-clause-runs g c = any_join _ _ _ _ _ c.fill.ensures.runs c.write_through.ensures.runs

pub returns-in_err-write_through-clause-any_moment : goal.returns-in_err-write_through-clause-any_moment
returns-in_err-write_through-clause-any_moment g c told settled within closed =
    let first = c.fill.ensures.runs in
    leaves_opening _ _ c.args.place c.args.lsn c.args.value.now first _ told settled within closed
    (c.in_ok-fill.ensures.settled settled) (c.in_ok-fill.ensures.filled (first.begins.telling told)) c.write_through.ensures.runs

pub returns-clause-runs : goal.returns-clause-runs
returns-clause-runs g c = any_join _ _ _ _ _ c.fill.ensures.runs c.write_through.ensures.runs

pub returns-clause-put : goal.returns-clause-put
returns-clause-put g c told =
    let first = c.fill.ensures.runs in
    put_done _ _ c.args.place c.args.lsn c.args.value.now first _ told (c.in_ok-fill.ensures.filled told) c.write_through.ensures.runs
    (c.in_ok-write_through.ensures.written (first.time.files_told.0 told)).changed

pub returns-clause-any_moment : goal.returns-clause-any_moment
returns-clause-any_moment g c told settled within closed =
    let first = c.fill.ensures.runs in
    leaves_opening _ _ c.args.place c.args.lsn c.args.value.now first _ told settled within closed
    (c.in_ok-fill.ensures.settled settled) (c.in_ok-fill.ensures.filled (first.begins.telling told)) c.write_through.ensures.runs
