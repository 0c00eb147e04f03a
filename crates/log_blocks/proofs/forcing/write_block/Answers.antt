use Rattle.log_blocks.proofs.Steps.{IsForce, any_change, any_twice, changed_twice, leaves_staging, staged_by, block_moments, opened_log}
use Rattle.disk_model.specs.Disk.{In, Any}
use Rattle.disk_model.specs.Moments.{passes_twice, runs_twice}
use Rattle.log_blocks.proofs.Filled.{filling_leaves, filled_leaves, still_at}
use Rattle.log_blocks.proofs.forcing.write_block.Goals as goal

pub returns-in_err-write_zeros-clause-runs : goal.returns-in_err-write_zeros-clause-runs
returns-in_err-write_zeros-clause-runs g c = any_change c.args.file _ _ _ c.write_zeros.ensures.runs

pub returns-in_err-write_block_body-clause-runs : goal.returns-in_err-write_block_body-clause-runs
returns-in_err-write_block_body-clause-runs g c = changed_twice _ _ _ c.args.file _ _ c.write_zeros.ensures.runs c.write_block_body.ensures.runs

pub returns-in_err-open_gate-clause-runs : goal.returns-in_err-open_gate-clause-runs
returns-in_err-open_gate-clause-runs g c =
    runs_twice _ _ _ (In c.args.file Any) (any_twice c.args.file) (changed_twice _ _ _ c.args.file _ _ c.write_zeros.ensures.runs c.write_block_body.ensures.runs) (any_change c.args.file _ _ _ c.open_gate.ensures.runs)

pub returns-clause-runs : goal.returns-clause-runs
returns-clause-runs g c =
    runs_twice _ _ _ (In c.args.file Any) (any_twice c.args.file) (changed_twice _ _ _ c.args.file _ _ c.write_zeros.ensures.runs c.write_block_body.ensures.runs) (any_change c.args.file _ _ _ c.open_gate.ensures.runs)

pub returns-in_err-write_zeros-clause-any_moment : goal.returns-in_err-write_zeros-clause-any_moment
returns-in_err-write_zeros-clause-any_moment g c told header payloads payload some short bytes rests =
    filling_leaves _ c.args.file c.args.gate header payloads rests payload _ told c.write_zeros.ensures.runs

pub returns-in_err-write_block_body-clause-any_moment : goal.returns-in_err-write_block_body-clause-any_moment
returns-in_err-write_block_body-clause-any_moment g c told header payloads payload some short bytes rests =
    let zeros = c.write_zeros.ensures.runs in
    let here = still_at _ c.args.file c.args.gate header payloads rests _ (zeros.reads (zeros.begins.telling told)) (c.in_ok-write_zeros.ensures.settled rests.settled) in
    let f : IsForce _ c.args.file c.args.gate header payloads payload = record { some = some; short = short; rests = here } in
    filled_leaves _ c.args.file c.args.gate header payloads rests payload _ told zeros _ c.write_block_body.ensures.runs.time
    (leaves_staging _ c.args.file c.args.gate header payloads payload f _ _ (zeros.time.moments_told.0 told) c.write_block_body.ensures.runs.time c.write_block_body.ensures.runs.crash)

pub returns-in_err-open_gate-clause-any_moment : goal.returns-in_err-open_gate-clause-any_moment
returns-in_err-open_gate-clause-any_moment g c told header payloads payload some short bytes rests =
    let zeros = c.write_zeros.ensures.runs in
    let here = still_at _ c.args.file c.args.gate header payloads rests _ (zeros.reads (zeros.begins.telling told)) (c.in_ok-write_zeros.ensures.settled rests.settled) in
    filled_leaves _ c.args.file c.args.gate header payloads rests payload _ told zeros _ (passes_twice _ _ _ c.open_gate.ensures.runs.ends c.write_block_body.ensures.runs.time c.open_gate.ensures.runs.time)
    (block_moments _ _ _ c.args.file c.args.gate c.args.bytes.now c.write_block_body.ensures.runs c.in_ok-write_block_body.ensures.written c.in_ok-write_block_body.ensures.settled c.open_gate.ensures.runs
    (zeros.time.moments_told.0 told) header payloads payload some short bytes here)

pub returns-clause-any_moment : goal.returns-clause-any_moment
returns-clause-any_moment g c told header payloads payload some short bytes rests =
    let zeros = c.write_zeros.ensures.runs in
    let here = still_at _ c.args.file c.args.gate header payloads rests _ (zeros.reads (zeros.begins.telling told)) (c.in_ok-write_zeros.ensures.settled rests.settled) in
    filled_leaves _ c.args.file c.args.gate header payloads rests payload _ told zeros _ (passes_twice _ _ _ c.open_gate.ensures.runs.ends c.write_block_body.ensures.runs.time c.open_gate.ensures.runs.time)
    (block_moments _ _ _ c.args.file c.args.gate c.args.bytes.now c.write_block_body.ensures.runs c.in_ok-write_block_body.ensures.written c.in_ok-write_block_body.ensures.settled c.open_gate.ensures.runs
    (zeros.time.moments_told.0 told) header payloads payload some short bytes here)

pub returns-clause-acknowledged : goal.returns-clause-acknowledged
returns-clause-acknowledged g c told header payloads payload some short bytes rests =
    let old = g.M.Machine.disk c.write_zeros.new.machine in
    let mid = g.M.Machine.disk c.write_block_body.new.machine in
    let zeros = c.write_zeros.ensures.runs in
    let here = still_at _ c.args.file c.args.gate header payloads rests old (zeros.reads told) (c.in_ok-write_zeros.ensures.settled rests.settled) in
    let f : IsForce old c.args.file c.args.gate header payloads payload = record { some = some; short = short; rests = here } in
    let mid_told = zeros.time.files_told.0 told in
    let is_staged = staged_by old c.args.file c.args.gate header payloads payload f mid c.args.bytes.now bytes c.in_ok-write_block_body.ensures.settled (c.in_ok-write_block_body.ensures.written mid_told) in
    let opened = opened_log old c.args.file c.args.gate header payloads payload f mid _ is_staged (c.in_ok-open_gate.ensures.settled is_staged.settled)
    (c.in_ok-open_gate.ensures.written (c.write_block_body.ensures.runs.time.files_told.0 mid_told)) in
    rw bytes opened

pub returns-clause-settled : goal.returns-clause-settled
returns-clause-settled g c settled = c.in_ok-open_gate.ensures.settled (c.in_ok-write_block_body.ensures.settled (c.in_ok-write_zeros.ensures.settled settled))
